-- A record has no more elements than bytes: so a buffer of 16 times the record's length has room for all.
-- Each element takes a byte or more in the strict form, which is no longer than the record.
use Prim.Native.Nat.{ℕ, suc, ◌+◌, ◌*◌, ◌≤◌}
use mathlib.Core.Path.{◌≡◌}
use mathlib.Core.Bool.{Bool, true, false}
use mathlib.Core.List.{List, [], ◌∷◌, ◌++◌, map}
use native.Mathlib.Omega.{arith}
use lib.ListN.{length, length-append}
use Rattle.scan.specs.Choice.{pick, shown}
use Rattle.scan.specs.Bytes.{IsBytes}
use Rattle.varint.specs.Uleb.{uleb}
use Rattle.varint.proofs.UlebLaws.{length_one}
use Rattle.hexdigits.specs.Hex.{unhex, goes_as_bytes}
use Rattle.event.specs.Event.{Text}
use Rattle.notepack.specs.declared.Part.{Part}
use Rattle.notepack.specs.Strict.{pack_element, pack_elements, pack_tag, pack_tags, pack}
use Rattle.notepack.specs.Unpack.{text_of, Packed, packed_at, event_of, unpack}
use Rattle.notepack.proofs.Sound.{sound}
use Rattle.elements.specs.Elements.{in_tag, in_tags}

-- ---- in the strict form

element_one : (t : Text) → 1 ≤ length (pack_element t)
unfolding pack_element
element_one t = go (goes_as_bytes t)
  where
    go : (b : Bool) → 1 ≤ length (pick b (uleb (2 * length (unhex t) + 1) ++ unhex t) (uleb (2 * length t) ++ t))
    go true = let h = length_one (2 * length (unhex t) + 1) in let k = length-append (uleb (2 * length (unhex t) + 1)) (unhex t) in omega (arith, h, k)
    go false = let h = length_one (2 * length t) in let k = length-append (uleb (2 * length t)) t in omega (arith, h, k)

module _ (f : Part → Text) where
  tag_few : (i : ℕ) (ps : List Part) → length (in_tag i ps) ≤ length (pack_elements (map f ps))
  tag_few i [] = omega arith
  tag_few i (p ∷ ps) =
      let h = element_one (f p) in
      let k = length-append (pack_element (f p)) (pack_elements (map f ps)) in
      let r = tag_few i ps in
      omega (arith, h, k, r)

  tags_few : (i : ℕ) (ts : List (List Part)) → length (in_tags i ts) ≤ length (pack_tags (map (map f) ts))
  unfolding pack_tag
  tags_few i [] = omega arith
  tags_few i (t ∷ ts) =
      let a = length-append (in_tag i t) (in_tags (suc i) ts) in
      let b = length-append (pack_tag (map f t)) (pack_tags (map (map f) ts)) in
      let c = length-append (uleb (length (map f t))) (pack_elements (map f t)) in
      let h = tag_few i t in
      let r = tags_few (suc i) ts in
      omega (arith, a, b, c, h, r)

-- ---- in the record

last_part : (a b c d e f g h t : List ℕ) → length t ≤ length (a ++ (b ++ (c ++ (d ++ (e ++ (f ++ (g ++ (h ++ t))))))))
last_part a b c d e f g h t = simp length-append (omega arith)

pub elements_most : (s : List ℕ) → IsBytes s → (p : Packed) → packed_at s ≡ shown p → length (in_tags 0 p.tags) ≤ length s
unfolding unpack pack event_of
elements_most s bytes p e =
    let v = event_of s p in
    let few = tags_few (text_of s) 0 p.tags in
    let all = last_part v.id v.pubkey v.sig (uleb v.created_at) (uleb v.kind) (uleb (length v.content)) v.content (uleb (length v.tags)) (pack_tags v.tags) in
    let least = (sound s bytes v (rw e)).least in
    omega (arith, few, all, least)
