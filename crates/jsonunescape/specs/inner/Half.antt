-- Hex digits that come in parts: the upper half of a byte may be read in one part and the lower half in the next.
-- Assumes nothing.
use Rattle.std.specs.Prelude.{ℕ, ◌%◌, List, [], ◌∷◌, ltb}
use Rattle.scan.specs.Choice.{pick}
use Rattle.hexdigits.specs.Hex.{value_of, digit_of}

-- the digits of l behind the half that is read already; 16 where none is
unfoldable pub held : ℕ → List ℕ → List ℕ
held half l = pick (ltb half 16) (digit_of half ∷ l) l

-- the half that is left over behind l
unfoldable pub half_behind : ℕ → List ℕ → ℕ
half_behind half [] = half
half_behind half (b ∷ l) = half_behind (pick (ltb half 16) 16 (value_of b % 16)) l
