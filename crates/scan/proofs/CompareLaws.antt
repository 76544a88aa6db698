-- The laws of comparing: the decision is equality, the same either way round; and what the library's `==` and `<` of
-- slices say of it.
use Prim.Native.Nat.{ℕ}
use mathlib.Core.Path.{◌≡◌, refl, sym, ap, ◌∙◌}
use mathlib.Core.Bool.{Bool, true, false}
use mathlib.Core.List.{List, [], ◌∷◌, ◌++◌}
use native.Mathlib.Omega.{arith}
use lib.ListN.{length, drop}
use lib.Dec.{eqb}
use lib.Pointwise.{pointwise}
use Rattle.std.specs.Ordering.{nat_cmp, MatchOrdering}
use Rattle.std.specs.declared.cmp.Ordering.{Ordering}
use borrow.Author.Tests.{eq-eqb, eqb-true}
use Rattle.std.proofs.lemmas.Bool.Decides.{nat_tests}
use Rattle.scan.specs.Choice.{pick}
use Rattle.scan.specs.Place.{begins}
use Rattle.scan.specs.Compare.{same_bytes, lower}
use Rattle.scan.proofs.Step.{pick_and, pick_true, false_true}

-- equal byte strings are found equal
pub same_same : (a : List ℕ) → same_bytes a a ≡ true
unfolding same_bytes
same_same [] = refl
same_same (b ∷ l) = rw (eq-eqb b b refl) (same_same l)

-- those that are found equal are equal
pub bytes_same : (a b : List ℕ) → same_bytes a b ≡ true → a ≡ b
unfolding same_bytes
bytes_same [] [] h = refl
bytes_same [] (b ∷ l) h = absurd (false_true h)
bytes_same (a ∷ k) [] h = absurd (false_true h)
bytes_same (a ∷ k) (b ∷ l) h =
    let t = pick_true (eqb a b) (same_bytes k l) h in
    let e = eqb-true a b t.0 in
    let f = bytes_same k l t.1 in
    cc

pub both_ways : (x y : Bool) → (x ≡ true → y ≡ true) → (y ≡ true → x ≡ true) → x ≡ y
both_ways true y f g = sym (f refl)
both_ways false true f g = g refl
both_ways false false f g = refl

pub same_sym : (a b : List ℕ) → same_bytes a b ≡ same_bytes b a
same_sym a b = both_ways (same_bytes a b) (same_bytes b a) (λ h. rw (bytes_same a b h) (same_same b)) (λ h. rw (bytes_same b a h) (same_same a))

-- what the library's `==` of slices computes
pub same_eq : (a b : List ℕ) → pointwise eqb a b ≡ same_bytes a b
unfolding same_bytes
same_eq [] [] = refl
same_eq [] (y ∷ b) = refl
same_eq (x ∷ a) [] = refl
same_eq (x ∷ a) (y ∷ b) = pick_and (eqb x y) (pointwise eqb a b) ∙ ap (λ (t : Bool). pick (eqb x y) t false) (same_eq a b)

-- in parts: the first begins the other string, and the rest is the same
pub same_append : (a b c : List ℕ) → same_bytes (a ++ b) c ≡ pick (begins a c) (same_bytes b (drop (length a) c)) false
unfolding same_bytes begins
same_append [] b c = refl
same_append (x ∷ a) b [] = refl
same_append (x ∷ a) b (y ∷ c) = go (same_append a b c) (eqb x y)
  where
    go : same_bytes (a ++ b) c ≡ pick (begins a c) (same_bytes b (drop (length a) c)) false → (t : Bool)
        → pick t (same_bytes (a ++ b) c) false ≡ pick (pick t (begins a c) false) (same_bytes b (drop (length a) c)) false
    go e true = e
    go e false = refl

-- ---- lower as bytes: the heads decide, as in the library's order of lists

pub lower_heads : (x y : ℕ) (a b : List ℕ) (o : Ordering) → o ≡ nat_cmp x y
    → MatchOrdering o (lower (x ∷ a) (y ∷ b) ≡ true) (lower (x ∷ a) (y ∷ b) ≡ lower a b) (lower (x ∷ a) (y ∷ b) ≡ false)
unfolding lower
lower_heads x y a b o e = grind (arith, nat_tests)
