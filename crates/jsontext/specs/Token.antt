-- Tokens as they are read at a place, with the place behind them: white space, numbers, literals. Assumes nothing.
use Rattle.std.specs.Prelude.{ℕ, ◌+◌, Bool, true, List, length, eqb}
use Rattle.scan.specs.Choice.{pick, Answer, refused, Read, read}
use Rattle.scan.specs.Place.{byte_at, stands_at, run_at}
use Rattle.decimal.specs.Decimal.{is_digit}

-- what is read over has no value but the place behind it
pub data Done : Type 0 where
  done : Done

abbrev pub Skipped : Type 0
Skipped = Answer (Read Done)

abbrev pub past : ℕ → Skipped
past next = read done next

unfoldable pub is_space : ℕ → Bool
is_space b = pick (eqb b 0x20) true (pick (eqb b 0x0A) true (pick (eqb b 0x0D) true (eqb b 0x09)))

-- the end of the white space at a place
unfoldable pub space_at : List ℕ → ℕ → ℕ
space_at s at = run_at is_space s at

-- a literal at a place: 14 at its start where it is cut or another word
unfoldable pub word_at : List ℕ → List ℕ → ℕ → Skipped
word_at w s at = pick (stands_at w s at) (past (at + length w)) (refused 14 at)

-- ---- numbers: the longest prefix that is one

-- the end of the digits at a place, or another place where there is none
unfoldable pub digits_or : List ℕ → ℕ → ℕ → ℕ
digits_or s at other = pick (is_digit (byte_at s at)) (run_at is_digit s at) other

unfoldable pub minus_at : List ℕ → ℕ → ℕ
minus_at s at = pick (eqb (byte_at s at) 0x2D) (at + 1) at

unfoldable pub sign_at : List ℕ → ℕ → ℕ
sign_at s at = pick (eqb (byte_at s at) 0x2B) (at + 1) (minus_at s at)

-- the same place where there is none
unfoldable pub int_at : List ℕ → ℕ → ℕ
int_at s at = pick (eqb (byte_at s at) 0x30) (at + 1) (digits_or s at at)

unfoldable pub frac_at : List ℕ → ℕ → ℕ
frac_at s at = pick (eqb (byte_at s at) 0x2E) (digits_or s (at + 1) at) at

unfoldable pub is_e : ℕ → Bool
is_e b = pick (eqb b 0x65) true (eqb b 0x45)

unfoldable pub exp_at : List ℕ → ℕ → ℕ
exp_at s at = pick (is_e (byte_at s at)) (digits_or s (sign_at s (at + 1)) at) at

-- the number that starts at `start`, whose sign ends at i and whose digits before the point end at j: none where they
-- are none
unfoldable pub number_from : List ℕ → (start i j : ℕ) → Skipped
number_from s start i j = pick (eqb j i) (refused 14 start) (past (exp_at s (frac_at s j)))

unfoldable pub unsigned_from : List ℕ → (start i : ℕ) → Skipped
unsigned_from s start i = number_from s start i (int_at s i)

-- a number at a place: 14 at its start where none stands
unfoldable pub skip_number : List ℕ → ℕ → Skipped
skip_number s at = unsigned_from s at (minus_at s at)
