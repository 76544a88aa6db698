-- Lowercase hex: a digit and its value, a text of digits and its bytes. Assumes nothing.
use Rattle.std.specs.Prelude.{ℕ, ◌+◌, ◌*◌, ◌-◌, ◌/◌, ◌%◌, Bool, true, false, List, [], ◌∷◌, length, ltb, eqb}
use Rattle.scan.specs.Choice.{pick}
use Rattle.scan.specs.Place.{within}

-- a digit's value; 16 where the byte is no digit
unfoldable pub value_of : ℕ → ℕ
value_of b = pick (within 48 57 b) (b - 48) (pick (within 97 102 b) (b - 87) 16)

-- the digit of a value below 16
abbrev pub digit_of : ℕ → ℕ
digit_of v = pick (ltb v 10) (48 + v) (87 + v)

-- two digits for each byte, the upper half first
abbrev pub hexes : List ℕ → List ℕ
hexes [] = []
hexes (b ∷ l) = digit_of (b / 16) ∷ digit_of (b % 16) ∷ hexes l

-- a byte for each two digits. (Any other byte counts as 0 here; the readers ask `all_digits` first.)
unfoldable pub unhex : List ℕ → List ℕ
unhex [] = []
unhex (a ∷ []) = []
unhex (a ∷ b ∷ t) = (16 * (value_of a % 16) + value_of b % 16) ∷ unhex t

-- whether every byte is a digit
unfoldable pub all_digits : List ℕ → Bool
all_digits [] = true
all_digits (b ∷ t) = pick (ltb (value_of b) 16) (all_digits t) false

-- whether a text goes as bytes in the strict form: lowercase hex digits alone, an even number of them, at least two
unfoldable pub goes_as_bytes : List ℕ → Bool
goes_as_bytes t = pick (eqb (length t) 0) false (pick (eqb (length t % 2) 0) (all_digits t) false)
