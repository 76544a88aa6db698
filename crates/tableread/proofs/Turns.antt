-- The turns of `know_all`: what is stored so far is what the definition begins with.
-- The premises of a law are what its loop knows.
use Prim.Native.Nat.{ℕ, zero, suc, ◌+◌, ◌≤◌, ◌<◌}
use mathlib.Core.Path.{◌≡◌, refl, sym, ap, ◌∙◌}
use mathlib.Core.List.{List, [], ◌∷◌}
use native.Mathlib.Omega.{arith}
use native.Mathlib.Numerals.{add-one}
use lib.ListN.{length, get_or, set, take, length-set}
use lib.Seq.{take_all, take-suc, take-suc-set}
use Rattle.slots.specs.declared.Slot.{Slot}
use Rattle.tableread.specs.declared.Known.{Known}
use Rattle.tableread.specs.declared.Known.TheVariants.{Free}
use Rattle.tableread.specs.inner.Known.{known_at, known_from}

module _ (cells : List ℕ) where
  pub known_length : (i : ℕ) (t : List Slot) → length (known_from cells i t) ≡ length t
  known_length i [] = refl
  known_length i (s ∷ t) = ap suc (known_length (suc i) t)

  -- the j-th of them
  pub known_at_lem : (i j : ℕ) (t : List Slot) (d : Slot) (k : Known) → j < length t → get_or (known_from cells i t) j k ≡ known_at cells (i + j) (get_or t j d)
  known_at_lem i j [] d k l = absurd (omega arith)
  known_at_lem i zero (s ∷ t) d k l = let e : i + 0 ≡ i = omega arith in rw e
  known_at_lem i (suc j) (s ∷ t) d k l = let e : suc i + j ≡ i + suc j = omega arith in known_at_lem (suc i) j t d k (omega arith) ∙ rw e

  module _ (t : List Slot) (size : length t ≡ 64) (ks : List Known) (i : ℕ) (all : length ks ≡ 64) (inv : take i ks ≡ take i (known_from cells 0 t)) where
    pub known_again : {k : Known} (d : Slot) → i < 64 → k ≡ known_at cells i (get_or t i d)
        → (length (set ks i k) ≡ 64) × (take (i + 1) (set ks i k) ≡ take (i + 1) (known_from cells 0 t))
    known_again {k} d l e =
        let many = known_length 0 t in
        let z : 0 + i ≡ i = omega arith in
        let at : get_or (known_from cells 0 t) i Free ≡ k = known_at_lem 0 i t d Free (omega (arith, size)) ∙ rw z (sym e) in
        (length-set ks i k ∙ all, rw (add-one i, take-suc-set ks i k (omega (arith, all)), take-suc (known_from cells 0 t) i Free (omega (arith, size, many)), inv, at))

    pub known_left : 64 ≤ i → ks ≡ known_from cells 0 t
    known_left l = let many = known_length 0 t in sym (take_all i ks (omega (arith, all))) ∙ inv ∙ take_all i (known_from cells 0 t) (omega (arith, size, many))
