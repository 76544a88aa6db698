-- The laws of `Tells`: a definition made of `and_then`, `pick` and `many` tells what its pieces tell, so each reader is
-- one line a definition.
use Prim.Native.Nat.{ℕ, zero, suc, ◌≤◌}
use mathlib.Core.Path.{◌≡◌, refl, sym, ◌∙◌}
use mathlib.Core.Bool.{Bool, true, false}
use mathlib.Core.List.{List, [], ◌∷◌}
use native.Mathlib.Omega.{arith}
use lib.Dec.{eqb}
use borrow.Author.Tests.{eqb-true}
use Rattle.scan.specs.Choice.{pick, Answer, refused, Read, and_then, many}
use Rattle.scan.specs.Bytes.{All, none, also}
use Rattle.scan.proofs.Step.{pick_true, false_true}
use Rattle.event.specs.inner.Tells.{among, Tells, value, refusal}

-- a read that ends where the input ends, or before
abbrev pub Inside : {A : Type 0} → List ℕ → ℕ → Answer (Read A) → Type 0
Inside {A} numbers most = Tells numbers most (λ (r : Read A). r.next ≤ most)

module _ {numbers : List ℕ} {most : ℕ} where
  -- one question after another
  pub then_tells : {A B : Type 0} {P : A → Type 0} {Q : B → Type 0} {r : Answer A} (f : A → Answer B) → Tells numbers most P r
      → ((x : A) → P x → Tells numbers most Q (f x)) → Tells numbers most Q (and_then r f)
  then_tells f (value {a = a} h) k = k a h
  then_tells f (refusal o h) k = refusal o h

  -- one of two, by a test
  pub pick_tells : {A : Type 0} {P : A → Type 0} (t : Bool) {x y : Answer A} → (t ≡ true → Tells numbers most P x) → (t ≡ false → Tells numbers most P y)
      → Tells numbers most P (pick t x y)
  pick_tells true f g = f refl
  pick_tells false f g = g refl

  -- less asked of the value
  pub less_tells : {A : Type 0} {P Q : A → Type 0} {r : Answer A} → ((x : A) → P x → Q x) → Tells numbers most P r → Tells numbers most Q r
  less_tells f (value {a = a} h) = value (f a h)
  less_tells f (refusal o h) = refusal o h

  -- n reads, one after the other
  pub many_tells : {A : Type 0} (item : ℕ → Answer (Read A)) → ((at : ℕ) → at ≤ most → Inside numbers most (item at)) → (n at : ℕ) → at ≤ most
      → Inside numbers most (many item n at)
  unfolding many
  many_tells item h zero at k = value k
  many_tells item h (suc n) at k = then_tells _ (h at k) (λ x p. then_tells _ (many_tells item h n x.next p) (λ xs q. value q))

  -- and each value that was read has Q
  pub many_all_tells : {A : Type 0} {Q : A → Type 0} (item : ℕ → Answer (Read A))
      → ((at : ℕ) → at ≤ most → Tells numbers most (λ (r : Read A). (r.next ≤ most) × Q r.value) (item at)) → (n at : ℕ) → at ≤ most
      → Tells numbers most (λ (r : Read (List A)). (r.next ≤ most) × All Q r.value) (many item n at)
  unfolding many
  many_all_tells item h zero at k = value (k, none)
  many_all_tells item h (suc n) at k =
      then_tells _ (h at k) (λ x p. then_tells _ (many_all_tells item h n x.next p.0) (λ xs q. value (q.0, also p.1 q.1)))

-- all of a stand in b
abbrev pub all_among : List ℕ → List ℕ → Bool
all_among [] b = true
all_among (k ∷ a) b = pick (among b k) (all_among a b) false

pub all_among_lem : (a b : List ℕ) (n : ℕ) → all_among a b ≡ true → among a n ≡ true → among b n ≡ true
all_among_lem [] b n h k = absurd (false_true k)
all_among_lem (x ∷ a) b n h k =
    let p = pick_true (among b x) (all_among a b) h in
    go p.0 (eqb n x) refl (λ q. all_among_lem a b n p.1 q) k
  where
    go : among b x ≡ true → (t : Bool) → eqb n x ≡ t → (among a n ≡ true → among b n ≡ true) → pick t true (among a n) ≡ true → among b n ≡ true
    go g true e f q = rw (eqb-true n x e) g
    go g false e f q = f q

-- more numbers, and a place further on
pub wider : {A : Type 0} {P : A → Type 0} {r : Answer A} {a b : List ℕ} {m k : ℕ} → all_among a b ≡ true → m ≤ k → Tells a m P r → Tells b k P r
wider h le (value p) = value p
wider {a = a} {b = b} h le (refusal {n = n} {p = p} o q) = refusal {p = p} (all_among_lem a b n h o) (omega arith)

-- 0 is no refusal's number where it is not in the list: C tells a value from a refusal
pub never_zero : {A : Type 0} {P : A → Type 0} {a : List ℕ} {m n p : ℕ} → among a 0 ≡ false → Tells a m P (refused n p) → n ≡ 0 → ⊥
never_zero {a = a} h (refusal {n = n} o q) e = let z : among a 0 ≡ true = rw e at o in false_true (sym h ∙ z)

-- and its place is in the input or at its end
pub never_past : {A : Type 0} {P : A → Type 0} {a : List ℕ} {m n p : ℕ} → Tells a m P (refused n p) → p ≤ m
never_past (refusal o q) = q
