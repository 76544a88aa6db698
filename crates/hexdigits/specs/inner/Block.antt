-- What the private loops promise: what a byte that is no digit counts; the values of digits, and the bytes of values.
-- Assumes nothing.
use Rattle.std.specs.Prelude.{ℕ, ◌+◌, ◌*◌, ◌%◌, List, [], ◌∷◌, ltb}
use Rattle.scan.specs.Choice.{pick}
use Rattle.hexdigits.specs.Hex.{value_of}

-- 1 for a byte that is no digit
unfoldable pub is_other : ℕ → ℕ
is_other b = pick (ltb (value_of b) 16) 0 1

-- the value of each byte as a digit
unfoldable pub values_of : List ℕ → List ℕ
values_of [] = []
values_of (b ∷ l) = value_of b ∷ values_of l

-- a byte for each two values
unfoldable pub pairs_of : List ℕ → List ℕ
pairs_of [] = []
pairs_of (a ∷ []) = []
pairs_of (a ∷ b ∷ l) = (16 * (a % 16) + b % 16) ∷ pairs_of l
