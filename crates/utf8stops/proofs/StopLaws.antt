-- Where the sequences stop: the end of a walk that goes from a place behind the sequence that stands there.
-- By induction on the fuel, which does not matter once it is as much as the bytes that are left.
use Prim.Native.Nat.{ℕ, zero, suc, ◌+◌, ◌-◌, ◌≤◌}
use mathlib.Core.Path.{◌≡◌, refl, sym, ap, ◌∙◌}
use mathlib.Core.List.{List}
use mathlib.Core.Logic.{dite}
use native.Mathlib.Omega.{arith}
use native.Mathlib.Decide.{ℕ_discrete}
use lib.ListN.{length}
use borrow.Author.Tests.{eq-eqb, ne_eqb}
use Rattle.utf8.specs.inner.Width.{width_at}
use Rattle.utf8.proofs.WidthLaws.{width_none, width_place, width_within}
use Rattle.utf8stops.specs.Stops.{stop_by, stop_at}

pub stop_none : (fuel : ℕ) (s : List ℕ) (a : ℕ) → width_at s a ≡ 0 → stop_by fuel s a ≡ a
unfolding stop_by
stop_none zero s a e = refl
stop_none (suc fuel) s a e = rw (eq-eqb (width_at s a) 0 e)

pub stop_more : (fuel : ℕ) (s : List ℕ) (a : ℕ) → (width_at s a ≡ 0 → ⊥) → stop_by (suc fuel) s a ≡ stop_by fuel s (a + width_at s a)
unfolding stop_by
stop_more fuel s a n = rw (ne_eqb (width_at s a) 0 n)

pub stop_zero : (s : List ℕ) (a : ℕ) → stop_by zero s a ≡ a
unfolding stop_by
stop_zero s a = refl

pub stop_least : (fuel : ℕ) (s : List ℕ) (a : ℕ) → a ≤ stop_by fuel s a
stop_least zero s a = omega (arith, stop_zero s a)
stop_least (suc fuel) s a =
    dite (ℕ_discrete (width_at s a) 0) (λ e. omega (arith, stop_none (suc fuel) s a e)) (λ n. omega (arith, stop_more fuel s a n, stop_least fuel s (a + width_at s a)))

-- no more fuel than bytes are left is wanted
stop_fuel : (f g : ℕ) (s : List ℕ) (a : ℕ) → length s - a ≤ f → length s - a ≤ g → stop_by f s a ≡ stop_by g s a
stop_fuel zero g s a h k = let z = width_none s a (omega arith) in stop_none zero s a z ∙ sym (stop_none g s a z)
stop_fuel (suc f) zero s a h k = let z = width_none s a (omega arith) in stop_none (suc f) s a z ∙ sym (stop_none zero s a z)
stop_fuel (suc f) (suc g) s a h k =
    dite (ℕ_discrete (width_at s a) 0) (λ z. stop_none (suc f) s a z ∙ sym (stop_none (suc g) s a z))
    (λ n.
    stop_more f s a n ∙ stop_fuel f g s (a + width_at s a) (omega (arith, h, n)) (omega (arith, k, n)) ∙ sym (stop_more g s a n))

-- ---- the stop from a place on

-- where no sequence stands it is the place
pub stop_here : (s : List ℕ) (a : ℕ) → width_at s a ≡ 0 → stop_at s a ≡ a
stop_here s a z = stop_none (length s - a) s a z

-- so at the end
pub stop_end : (s : List ℕ) (a : ℕ) → length s ≤ a → stop_at s a ≡ a
stop_end s a h = stop_here s a (width_none s a h)

-- else it is the stop from behind the sequence
pub stop_step : (s : List ℕ) (a : ℕ) → (width_at s a ≡ 0 → ⊥) → stop_at s a ≡ stop_at s (a + width_at s a)
stop_step s a n =
    let h = width_place s a n in
    let k = length s - a - 1 in
    let e : length s - a ≡ suc k = omega arith in
    ap (λ (f : ℕ). stop_by f s a) e ∙ stop_more k s a n ∙ stop_fuel k (length s - (a + width_at s a)) s (a + width_at s a) (omega (arith, n)) (omega arith)

-- it is within the input
stop_most : (fuel : ℕ) (s : List ℕ) (a : ℕ) → a ≤ length s → stop_by fuel s a ≤ length s
stop_most zero s a h = omega (arith, stop_zero s a)
stop_most (suc fuel) s a h =
    dite (ℕ_discrete (width_at s a) 0) (λ z. omega (arith, h, stop_none (suc fuel) s a z))
    (λ n. omega (arith, stop_more fuel s a n, stop_most fuel s (a + width_at s a) (width_within s a n)))

pub stop_within : (s : List ℕ) (a : ℕ) → a ≤ length s → stop_at s a ≤ length s
stop_within s a h = stop_most (length s - a) s a h
