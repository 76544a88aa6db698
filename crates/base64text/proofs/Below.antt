-- A test that passes at every number below a bound, computed once for all of them.
-- By induction on how many numbers are left.
use Prim.Native.Nat.{ℕ, zero, suc, ◌+◌, ◌<◌, ◌≤◌}
use mathlib.Core.Path.{◌≡◌}
use mathlib.Core.Bool.{Bool, true, false}
use mathlib.Core.Logic.{dite}
use native.Mathlib.Omega.{arith}
use native.Mathlib.Decide.{ℕ_discrete}
use Rattle.scan.specs.Choice.{pick}
use Rattle.scan.proofs.Step.{pick_true}

-- the test passes at n numbers from i on
abbrev pub every : (ℕ → Bool) → ℕ → ℕ → Bool
every f zero i = true
every f (suc n) i = pick (f i) (every f n (i + 1)) false

pub every_at : (f : ℕ → Bool) (n i : ℕ) → every f n i ≡ true → (k : ℕ) → i ≤ k → k < i + n → f k ≡ true
every_at f zero i e k l h = absurd (omega arith)
every_at f (suc n) i e k l h =
    let t = pick_true (f i) (every f n (i + 1)) e in
    dite (ℕ_discrete i k) (λ q. rw q at t.0) (λ q. every_at f n (i + 1) t.1 k (omega (arith, q)) (omega arith))
