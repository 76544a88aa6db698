-- The run of digits at a place, as the code reads it. Assumes nothing.
use Rattle.std.specs.Prelude.{ℕ, ◌-◌, List, take, drop, leb, eqb, Result, Ok, Err}
use Rattle.scan.specs.Choice.{pick}
use Rattle.scan.specs.Place.{run_at}
use Rattle.decimal.specs.declared.DecimalError.{DecimalError}
use Rattle.decimal.specs.declared.DecimalError.TheVariants.{NoDigit, Over}
use Rattle.decimal.specs.Decimal.{is_digit, number_of}

-- what the run of digits at a place is: a number up to a maximum, over it, or no digit at all
pub data Digits : Type 0 where
  number : (value next : ℕ) → Digits
  over : (next : ℕ) → Digits
  none : Digits

-- the run of digits at `at` that ends at `end`
unfoldable pub digits_to : ℕ → List ℕ → ℕ → ℕ → Digits
digits_to max s at end =
    let n = number_of (take (end - at) (drop at s)) in pick (eqb end at) none (pick (leb n max) (number n end) (over end))

-- the longest run of digits at a place
unfoldable pub digits_at : ℕ → List ℕ → ℕ → Digits
digits_at max s at = digits_to max s at (run_at is_digit s at)

-- the meaning of the code's answer
abbrev pub decimal_read : Result (ℕ × ℕ) DecimalError → Digits
decimal_read (Ok x) = number x.0 x.1
decimal_read (Err (Over end)) = over end
decimal_read (Err NoDigit) = none
