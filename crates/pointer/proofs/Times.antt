-- The second that a word says, and the word of a second's milliseconds.
-- By the laws of crate moment, and the word's sign.
use Prim.Native.Nat.{ℕ, ◌*◌, ◌-◌, ◌≤◌, ◌<◌}
use mathlib.Core.Path.{◌≡◌, refl}
use mathlib.Core.Bool.{Bool, true, false}
use native.Mathlib.Omega.{arith}
use lib.IntN.{pos, negsuc}
use lib.Dec.{ltb}
use borrow.Author.Tests.{lt-ltb, ltb-true}
use Rattle.scan.specs.Choice.{pick}
use Rattle.moment.specs.Moment.{signed_of, millis_of, whole, seconds_of}
use Rattle.moment.proofs.Inverse.{second_back, millis_back}

-- a second that is told is of the word's milliseconds, and within the limit
pub second_millis : (w t : ℕ) → seconds_of (signed_of w) ≡ whole t → (w ≡ millis_of t) × (t ≤ 9_223_372_036_854_775)
unfolding signed_of millis_of
second_millis w t e = go (ltb w 9_223_372_036_854_775_808) refl (millis_back (signed_of w) t e)
  where
    go : (b : Bool) → ltb w 9_223_372_036_854_775_808 ≡ b → pick b (pos w) (negsuc (18_446_744_073_709_551_615 - w)) ≡ pos (millis_of t)
        → (w ≡ millis_of t) × (t ≤ 9_223_372_036_854_775)
    go true q f = let k : w ≡ 1_000 * t = cc in (k, omega (arith, k, ltb-true w 9_223_372_036_854_775_808 q))
    go false q f = let z : ◌≡◌ {A = ℕ} 0 1 = cc in absurd (omega arith)

module _ (t : ℕ) (h : t ≤ 9_223_372_036_854_775) where
  pub millis_second : seconds_of (signed_of (millis_of t)) ≡ whole t
  unfolding signed_of millis_of
  millis_second = rw (lt-ltb (1_000 * t) 9_223_372_036_854_775_808 (omega arith)) (second_back t)

  pub millis_fit : millis_of t < 18_446_744_073_709_551_616
  unfolding millis_of
  millis_fit = omega arith
