-- The two ways are inverse: the second of a second's milliseconds is that second, and a second's milliseconds are those
-- that said it. A word's number is spelled by that word.
-- By the cases of the definitions; the division has no rest.
use Prim.Native.Nat.{ℕ, ◌*◌, ◌/◌, ◌%◌, ◌-◌, ◌<◌}
use mathlib.Core.Path.{◌≡◌, refl, ap}
use mathlib.Core.Bool.{Bool, true, false}
use native.Mathlib.Omega.{arith}
use lib.IntN.{ℤ, pos, negsuc}
use lib.Dec.{ltb, eqb}
use borrow.Author.Tests.{eqb-true, eq-eqb}
use Rattle.scan.specs.Choice.{pick}
use Rattle.moment.specs.Moment.{signed_of, word_of, millis_of, whole, split, seconds_of}

-- no second is none
none : {R : Type 0} {n : ℕ} → split ≡ whole n → R
none e = let z : ◌≡◌ {A = ℕ} 0 1 = cc in absurd (omega arith)

-- there and back
pub second_back : (n : ℕ) → seconds_of (pos (millis_of n)) ≡ whole n
unfolding seconds_of millis_of
second_back n = let q : 1_000 * n / 1_000 ≡ n = omega arith in rw (eq-eqb (1_000 * n % 1_000) 0 (omega arith), q)

-- back and there
pub millis_back : (z : ℤ) (n : ℕ) → seconds_of z ≡ whole n → z ≡ pos (millis_of n)
unfolding seconds_of millis_of
millis_back (pos k) n e = go (eqb (k % 1_000) 0) refl e
  where
    go : (t : Bool) → eqb (k % 1_000) 0 ≡ t → pick t (whole (k / 1_000)) split ≡ whole n → pos k ≡ pos (1_000 * n)
    go true q f =
        let z = eqb-true (k % 1_000) 0 q in
        let m : k / 1_000 ≡ n = cc in
        ap pos (omega (arith, z, m))
    go false q f = none f
millis_back (negsuc k) n e = none e

-- a word's number is spelled by the word
pub word_back : (w : ℕ) → w < 18_446_744_073_709_551_616 → word_of (signed_of w) ≡ w
unfolding signed_of word_of
word_back w h = go (ltb w 9_223_372_036_854_775_808) refl
  where
    go : (t : Bool) → ltb w 9_223_372_036_854_775_808 ≡ t → word_of (pick t (pos w) (negsuc (18_446_744_073_709_551_615 - w))) ≡ w
    go true e = refl
    go false e = omega arith
