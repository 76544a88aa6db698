-- The turns of the loops that go over texts and tags again as strings and arrays, and the length of a part's text.
-- One text or tag more is what notepack says it is; the comma by how many are left. f is the escaping.
use Prim.Native.Nat.{ℕ, ◌+◌, ◌*◌, ◌-◌, ◌≤◌, ◌<◌}
use mathlib.Core.Path.{◌≡◌, ap, ◌∙◌}
use mathlib.Core.Bool.{true, false}
use mathlib.Core.List.{List, [], ◌∷◌, ◌++◌, map, append_assoc}
use native.Mathlib.Omega.{arith}
use lib.ListN.{length, drop, length-map, length-append, length-take, length-drop}
use Rattle.scan.specs.Bytes.{IsBytes}
use Rattle.scan.proofs.AllLaws.{all_take, all_drop}
use Rattle.hexdigits.specs.Hex.{hexes}
use Rattle.hexdigits.proofs.Texts.{length_hexes}
use Rattle.escape.specs.declared.Escaping.{Escaping}
use Rattle.escape.specs.declared.Escaping.TheVariants.{Canonical, Nson}
use Rattle.escape.specs.Escape.{escaped}
use Rattle.escape.specs.inner.Which.{byte_of, growth}
use Rattle.event.specs.Event.{Text, Tag}
use Rattle.notepack.specs.declared.Part.{Part}
use Rattle.notepack.specs.Unpack.{bytes_of, text_of}
use Rattle.notepack.specs.inner.Again.{part_again, count_again, texts_again, texts_end, tags_again}
use Rattle.notepack.proofs.Walking.{text_raw, text_plain}
use Rattle.notepack.proofs.Again as again
use Rattle.jsontags.specs.TagText.{quoted, commaed, tag_text}
use Rattle.jsontags.specs.inner.Comma.{comma}
use Rattle.jsontags.proofs.Texts.{hexes_stand, commaed_next}

-- ---- a part

-- a part is no longer than the input
pub part_short : (s : List ℕ) (p : Part) → length (bytes_of s p) ≤ length s
part_short s p = omega (arith, length-take p.len (drop p.at s), length-drop p.at s)

-- two digits for each byte of a part, and what a part's bytes grow to, are what the whole input could grow to
pub raw_most : (k : Escaping) (n m : ℕ) → n ≤ m → 2 * n ≤ growth k * m
raw_most Canonical n m h = omega arith
raw_most Nson n m h = omega arith

pub plain_most : (k : Escaping) (r n m : ℕ) → r ≤ growth k * n → n ≤ m → r ≤ growth k * m
plain_most Canonical r n m g h = omega arith
plain_most Nson r n m g h = omega arith

module _ (k : Escaping) (s : List ℕ) where
  -- the hex of a raw part needs no escape
  pub raw_text : IsBytes s → (p : Part) → p.raw ≡ true → escaped (byte_of k) (text_of s p) ≡ hexes (bytes_of s p)
  raw_text bytes p r = ap (escaped (byte_of k)) (text_raw s p r) ∙ hexes_stand k (all_take p.len (all_drop p.at bytes))

  -- the length of a part's text between its quotes, raw and plain
  pub raw_length : IsBytes s → (p : Part) → p.raw ≡ true → length (escaped (byte_of k) (text_of s p)) ≡ 2 * length (bytes_of s p)
  raw_length bytes p r = rw (raw_text bytes p r) (length_hexes (bytes_of s p))

  pub plain_length : (p : Part) → p.raw ≡ false → length (escaped (byte_of k) (text_of s p)) ≡ length (escaped (byte_of k) (bytes_of s p))
  plain_length p r = rw (text_plain s p r)

-- ---- a text or a tag more

module _ (f : ℕ → List ℕ) (s : List ℕ) (left at : ℕ) (more : 0 < left) where
  -- its string, a comma where more follow, and the others
  pub strings_turn : {p : Part} {next : ℕ} → p ≡ (part_again s at).value → next ≡ (part_again s at).next
      → commaed (map (quoted f) (texts_again left s at)) ≡ quoted f (text_of s p) ++ (comma (left - 1) ++ commaed (map (quoted f) (texts_again (left - 1) s next)))
  strings_turn {p} {next} e k =
      let ts = texts_again (left - 1) s next in
      ap (λ (l : List Text). commaed (map (quoted f) l)) (again.texts_turn s left at more e k).0
      ∙ commaed_next (quoted f (text_of s p)) (map (quoted f) ts) (length-map ts (quoted f) ∙ again.texts_count s (left - 1) next)

  pub strings_count : {p : Part} {next : ℕ} → p ≡ (part_again s at).value → next ≡ (part_again s at).next
      → length (commaed (map (quoted f) (texts_again left s at)))
      ≡ length (quoted f (text_of s p)) + length (comma (left - 1)) + length (commaed (map (quoted f) (texts_again (left - 1) s next)))
  strings_count {p} {next} e k =
      let x = quoted f (text_of s p) in
      let m = commaed (map (quoted f) (texts_again (left - 1) s next)) in
      ap length (strings_turn e k) ∙ omega (arith, length-append x (comma (left - 1) ++ m), length-append (comma (left - 1)) m)

  -- its strings between brackets, a comma where more follow, and the others
  pub arrays_turn : {n first end : ℕ} → n ≡ (count_again s at).value → first ≡ (count_again s at).next → end ≡ texts_end n s first
      → commaed (map (tag_text f) (tags_again left s at))
      ≡ (0x5B ∷ [])
      ++ (commaed (map (quoted f) (texts_again n s first)) ++ ((0x5D ∷ []) ++ (comma (left - 1) ++ commaed (map (tag_text f) (tags_again (left - 1) s end)))))
  unfolding tag_text
  arrays_turn {n} {first} {end} e k g =
      let t = texts_again n s first in
      let ts = tags_again (left - 1) s end in
      let m = commaed (map (tag_text f) ts) in
      ap (λ (l : List Tag). commaed (map (tag_text f) l)) (again.tags_turn s left at more e k g)
      ∙ commaed_next (tag_text f t) (map (tag_text f) ts) (length-map ts (tag_text f) ∙ again.tags_count s (left - 1) end)
      ∙ ap (λ (l : List ℕ). 0x5B ∷ l) (append_assoc (commaed (map (quoted f) t)) (0x5D ∷ []) (comma (left - 1) ++ m))

  pub arrays_count : {n first end : ℕ} → n ≡ (count_again s at).value → first ≡ (count_again s at).next → end ≡ texts_end n s first
      → length (commaed (map (tag_text f) (tags_again left s at)))
      ≡ length (commaed (map (quoted f) (texts_again n s first))) + 2 + length (comma (left - 1)) + length (commaed (map (tag_text f) (tags_again (left - 1) s end)))
  arrays_count {n} {first} {end} e k g =
      let es = commaed (map (quoted f) (texts_again n s first)) in
      let m = commaed (map (tag_text f) (tags_again (left - 1) s end)) in
      ap length (arrays_turn e k g)
      ∙ omega (arith, length-append es ((0x5D ∷ []) ++ (comma (left - 1) ++ m)), length-append (comma (left - 1)) m)

-- ---- none more

module _ (f : ℕ → List ℕ) (s : List ℕ) (left at : ℕ) (none : left ≤ 0) where
  pub strings_left : commaed (map (quoted f) (texts_again left s at)) ≡ []
  strings_left = rw (again.texts_left s left at none).0

  pub arrays_left : commaed (map (tag_text f) (tags_again left s at)) ≡ []
  arrays_left = rw (again.tags_left_lem s left at none)
