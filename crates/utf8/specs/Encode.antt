-- The encoding of a scalar value: the table of RFC 3629, section 3, row by row. Assumes nothing.
use Rattle.std.specs.Prelude.{ℕ, ◌+◌, ◌/◌, ◌%◌, ◌≤◌, ◌<◌, List, [], ◌∷◌, ltb}
use Rattle.scan.specs.Choice.{pick}
use Rattle.scan.specs.Place.{within}

-- a Unicode scalar value: up to 10FFFF and no surrogate
pub data Scalar : ℕ → Type 0 where
  below : {n : ℕ} → n < 0xD800 → Scalar n
  above : {n : ℕ} → 0xE000 ≤ n → n ≤ 0x10FFFF → Scalar n

-- 10xxxxxx with the lowest six bits of n
abbrev pub tail_of : ℕ → ℕ
tail_of n = 0x80 + n % 64

-- the bytes of a scalar value; none for any other number
unfoldable pub encode : ℕ → List ℕ
encode n =
    pick (ltb n 0x80) (n ∷ [])
    (pick (ltb n 0x800) ((0xC0 + n / 64) ∷ tail_of n ∷ [])
    (pick (within 0xD800 0xDFFF n) []
    (pick (ltb n 0x10000) ((0xE0 + n / 4096) ∷ tail_of (n / 64) ∷ tail_of n ∷ [])
    (pick (ltb n 0x110000) ((0xF0 + n / 262144) ∷ tail_of (n / 4096) ∷ tail_of (n / 64) ∷ tail_of n ∷ []) []))))
