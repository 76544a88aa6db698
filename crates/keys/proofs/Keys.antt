-- The key that is found by going over the tags again is the event's.
-- Tag by tag; `d` is never the text of raw bytes, whose hex has an even length.
use Prim.Native.Nat.{ℕ, zero, suc}
use mathlib.Core.Path.{◌≡◌, refl, sym, ap, ◌∙◌}
use Rattle.std.specs.Prelude.{Option, Some, None}
use mathlib.Core.Bool.{Bool, true, false}
use mathlib.Core.List.{List, []}
use native.Mathlib.Omega.{arith}
use lib.ListN.{length, take, drop}
use borrow.Author.Tests.{lt-ltb}
use Rattle.scan.specs.Ascii.{ascii}
use Rattle.scan.specs.Choice.{pick}
use Rattle.scan.specs.Compare.{same_bytes}
use Rattle.scan.proofs.Step.{not_so}
use Rattle.scan.proofs.CompareLaws.{bytes_same}
use Rattle.hexdigits.specs.Hex.{hexes}
use Rattle.hexdigits.proofs.Texts.{length_hexes}
use Rattle.notepack.specs.declared.Head.{Head}
use Rattle.notepack.specs.declared.Part.{Part}
use Rattle.notepack.specs.Unpack.{bytes_of, text_of}
use Rattle.notepack.specs.inner.Again.{part_again, count_again, texts_again, texts_end, tags_again}
use Rattle.notepack.proofs.Walking.{text_raw, text_plain}
use Rattle.notepack.proofs.Viewing.{Numbered}
use Rattle.notepack.proofs.Again.{tags_again_lem}
use Rattle.keys.specs.declared.KeyPlace.{KeyPlace}
use Rattle.keys.specs.Key as key
use Rattle.keys.specs.Key.{is_replaceable, is_labelled, isDTag, second_text, label_of, key_for, key_of}
use Rattle.keys.specs.inner.Place.{empty_part, is_d, second_at, label_at, key_at, key_there}

module _ (s : List ℕ) where
  -- `d` by its part is `d` by its text
  is_d_text : (n : ℕ) (p : Part) → is_d (suc n) s p ≡ same_bytes (text_of s p) (ascii "d")
  unfolding is_d
  is_d_text n p = rw (lt-ltb 0 (suc n) (omega arith)) (by_raw p.raw refl)
    where
      by_raw : (r : Bool) → p.raw ≡ r → pick p.raw false (same_bytes (bytes_of s p) (ascii "d")) ≡ same_bytes (text_of s p) (ascii "d")
      by_raw true e =
          let n = length_hexes (bytes_of s p) in
          let f = not_so (same_bytes (hexes (bytes_of s p)) (ascii "d")) (λ h. let k = ap length (bytes_same (hexes (bytes_of s p)) (ascii "d") h) in omega (arith, n, k)) in
          ap (λ (r : Bool). pick r false (same_bytes (bytes_of s p) (ascii "d"))) e ∙ sym (ap (λ (l : List ℕ). same_bytes l (ascii "d")) (text_raw s p e) ∙ f)
      by_raw false e =
          ap (λ (r : Bool). pick r false (same_bytes (bytes_of s p) (ascii "d"))) e ∙ sym (ap (λ (l : List ℕ). same_bytes l (ascii "d")) (text_plain s p e))

  pick_there : (t : Bool) (x y : Option KeyPlace) → key_there s (pick t x y) ≡ pick t (key_there s x) (key_there s y)
  pick_there true x y = refl
  pick_there false x y = refl

  pick_text : (t : Bool) (p q : Part) → text_of s (pick t p q) ≡ pick t (text_of s p) (text_of s q)
  pick_text true p q = refl
  pick_text false p q = refl

  empty_part_lem : text_of s empty_part ≡ []
  empty_part_lem = text_plain s empty_part refl

  -- the second of n texts
  second_there : (n f : ℕ) → text_of s (second_at n s (part_again s f).next) ≡ second_text (texts_again n s f)
  unfolding second_at texts_again
  second_there zero f = empty_part_lem
  second_there (suc zero) f = empty_part_lem
  second_there (suc (suc n)) f = rw (lt-ltb 1 (suc (suc n)) (omega arith))

  -- whether the first of n texts is `d`
  first_d : (n f : ℕ) → is_d n s (part_again s f).value ≡ isDTag (texts_again n s f)
  unfolding is_d texts_again
  first_d zero f = refl
  first_d (suc n) f = is_d_text n (part_again s f).value

  -- the label found among n tags is that of the tags again
  pub label_there : (n at : ℕ) → text_of s (label_at n s at) ≡ label_of (tags_again n s at)
  unfolding label_at tags_again
  label_there zero at = empty_part_lem
  label_there (suc n) at =
      let c = count_again s at in
      pick_text (is_d c.value s (part_again s c.next).value) _ _
      ∙ rw (second_there c.value c.next, first_d c.value c.next, label_there n (texts_end c.value s c.next))

  -- the key that stands in a packed event, by its tags again
  pub key_there_lem : (h : Head) → key_there s (key_at s h) ≡ key_for (take 32 (drop 32 s)) h.kind (label_of (tags_again h.tag_count s h.tags_at))
  unfolding key_at key_for
  key_there_lem h =
      pick_there (is_replaceable h.kind) _ _
      ∙ rw (pick_there (is_labelled h.kind) (Some (record { kind = h.kind; label = label_at h.tag_count s h.tags_at })) None, label_there h.tag_count h.tags_at, empty_part_lem)

  -- a replaceable kind's: no look at the tags
  pub replaceable-key
      : (h : Head) → is_replaceable h.kind ≡ true
      → key_there s (key_at s h) ≡ key.keyed (record { pubkey = take 32 (drop 32 s); kind = h.kind; text = [] })
  unfolding key_for
  replaceable-key h e = key_there_lem h ∙ rw e

  -- THE key: on an accepted input it is that of the event shown
  pub key_shown : (h : Head) (n : Numbered s h) → key_there s (key_at s h) ≡ key_of n.event
  key_shown h n = key_there_lem h ∙ rw (n.pubkey, n.kind, n.tags, tags_again_lem s h.tag_count h.tags_at n.parts n.reads)
