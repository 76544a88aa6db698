-- Decimal numbers: the spelling without leading zeros, and a run of digits as it is read. Assumes nothing.
use Rattle.std.specs.Prelude.{ℕ, zero, suc, ◌+◌, ◌*◌, ◌-◌, ◌/◌, ◌%◌, ◌≤◌, Bool, List, [], ◌∷◌, ◌++◌, ltb}
use Rattle.scan.specs.Choice.{pick}
use Rattle.scan.specs.Place.{within}

-- 0-9
pub data DecimalDigit : ℕ → Type 0 where
  digit : {b : ℕ} → 48 ≤ b → b ≤ 57 → DecimalDigit b

abbrev pub is_digit : ℕ → Bool
is_digit = within 48 57

-- the number that digits spell behind digits that spell n
abbrev pub behind : ℕ → List ℕ → ℕ
behind n [] = n
behind n (b ∷ l) = behind (n * 10 + (b - 48)) l

-- the number that digits spell
abbrev pub number_of : List ℕ → ℕ
number_of l = behind 0 l

-- the digits of n, by as many steps as the fuel allows
unfoldable pub decimal_in : ℕ → ℕ → List ℕ
decimal_in zero n = (48 + n) ∷ []
decimal_in (suc k) n = let longer = decimal_in k (n / 10) ++ ((48 + n % 10) ∷ []) in pick (ltb n 10) ((48 + n) ∷ []) longer

-- the digits of n, with no leading zero
unfoldable pub decimal : ℕ → List ℕ
decimal n = decimal_in n n
