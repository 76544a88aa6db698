-- What is told of an accepted record, and of one that is refused.
-- By the elements that a second pass finds, which are the record's own; they fit, since no more are taken than have
-- room.
use Prim.Native.Nat.{ℕ, ◌/◌, ◌≤◌}
use mathlib.Core.Path.{◌≡◌, refl, sym, ap, ◌∙◌}
use mathlib.Core.Bool.{Bool}
use mathlib.Core.List.{List, map}
use native.Mathlib.Omega.{arith}
use lib.ListN.{length, take, drop, length-take}
use Rattle.scan.specs.Choice.{shown, refused}
use Rattle.buffer.specs.inner.Store.{Wrote}
use Rattle.buffer.proofs.EntryLaws.{fitted}
use Rattle.buffer.proofs.Places.{ends_behind}
use Rattle.notepack.specs.declared.Head.{Head}
use Rattle.notepack.specs.Unpack.{Packed}
use Rattle.notepack.proofs.Viewing.{packed_apart}
use Rattle.versioned.specs.Views.{packed_given, numbers_given}
use Rattle.versioned.proofs.Viewing.{packed_placed, numbers_packed, packed_refused}
use Rattle.elements.specs.Elements.{in_tags, rows, listed, elements_told, elements_left}
use Rattle.elements.specs.inner.Again.{all_again}
use Rattle.elements.proofs.Again.{rows_length, all_same}
use Rattle.elements.proofs.Further.{in_tags_moved, all_further}

-- the second pass over an accepted record finds its elements, where they stand in the bytes given
all_given : (bare : Bool) (s : List ℕ) (p : Packed) → packed_given bare s ≡ shown p → all_again p.head.tag_count 0 s p.head.tags_at ≡ in_tags 0 p.tags
all_given bare s p r =
    let v = packed_placed bare s p r in
    let k = v.start in
    let q = v.there in
    let n = q.head.tag_count in
    let at = q.head.tags_at in
    let a = packed_apart (drop k s) q v.found in
    rw (sym v.same) (all_further k s n 0 at ∙ ap (map _) (all_same (drop k s) n 0 at _ a.1) ∙ in_tags_moved k 0 q.tags)

module _ (bare : Bool) (first : ℕ) (s d : List ℕ) where
  -- those listed have room
  pub listed_fit : (p : Packed) → length (rows (listed first d p)) ≤ length d
  unfolding listed
  listed_fit p =
      let l = take (length d / 16) (drop first (in_tags 0 p.tags)) in
      let h = length-take (length d / 16) (drop first (in_tags 0 p.tags)) in
      let k = rows_length l in
      omega (arith, h, k)

  written : (p : Packed) → packed_given bare s ≡ shown p → {d' : List ℕ} {e : ℕ} → Wrote d 0 (rows (listed first d p)) d' e
      → (shown (e / 16) ≡ elements_told bare first s d) × (d' ≡ elements_left bare first s d)
  written p r {d'} {e} w =
      let fit = listed_fit p in
      let k = rows_length (listed first d p) in
      let b = ends_behind (omega (arith, fit)) w in
      let n : e / 16 ≡ length (listed first d p) = omega (arith, b, k) in
      (rw (r, n), rw r (fitted refl fit w).1)

  -- an accepted record
  pub told : (h : Head) → shown h ≡ numbers_given bare s → {d' : List ℕ} {e : ℕ}
      → Wrote d 0 (rows (take (length d / 16) (drop first (all_again h.tag_count 0 s h.tags_at)))) d' e
      → (shown (e / 16) ≡ elements_told bare first s d) × (d' ≡ elements_left bare first s d)
  unfolding listed
  told h e w =
      let p = numbers_packed bare s h (sym e) in
      written p.0 p.1 (rw (← p.2, all_given bare s p.0 p.1) at w)

  -- one that is refused
  pub not_told : (n q : ℕ) → refused n q ≡ numbers_given bare s
      → (refused n q ≡ elements_told bare first s d) × (d ≡ elements_left bare first s d)
  not_told n q e = rw (packed_refused bare s n q (sym e)) (refl, refl)
