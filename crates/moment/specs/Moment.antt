-- Unix seconds and signed milliseconds, and the way between them (rules 18). No other definition has the number 1,000
-- for them. Assumes nothing.
use Rattle.std.specs.Prelude.{ℕ, ◌*◌, ◌/◌, ◌%◌, ◌-◌, ℤ, pos, negsuc, Option, Some, None, ltb, eqb}
use Rattle.scan.specs.Choice.{pick}
use Rattle.moment.specs.declared.Seconds.{Seconds}
use Rattle.moment.specs.declared.Millis.{Millis}

-- the signed number that a word of 64 bits spells in two's complement
unfoldable pub signed_of : ℕ → ℤ
signed_of n = pick (ltb n 9_223_372_036_854_775_808) (pos n) (negsuc (18_446_744_073_709_551_615 - n))

-- and the word that spells it
unfoldable pub word_of : ℤ → ℕ
word_of (pos n) = n
word_of (negsuc n) = 18_446_744_073_709_551_615 - n

-- the milliseconds of a second
unfoldable pub millis_of : ℕ → ℕ
millis_of n = 1_000 * n

-- a second, or none
pub data Second : Type 0 where
  whole : ℕ → Second
  split : Second

-- the second that milliseconds say: none where they are negative or no whole second
unfoldable pub seconds_of : ℤ → Second
seconds_of (pos n) = pick (eqb (n % 1_000) 0) (whole (n / 1_000)) split
seconds_of (negsuc n) = split

abbrev pub seconds_read : Option Seconds → Second
seconds_read (Some s) = whole s.0
seconds_read None = split

-- milliseconds, or none: a number that no word of 64 bits spells
pub data Milliseconds : Type 0 where
  fitting : ℤ → Milliseconds
  beyond : Milliseconds

unfoldable pub millis_for : ℕ → Milliseconds
millis_for n = pick (ltb (millis_of n) 9_223_372_036_854_775_808) (fitting (pos (millis_of n))) beyond

abbrev pub millis_read : Option Millis → Milliseconds
millis_read (Some m) = fitting m.0
millis_read None = beyond
