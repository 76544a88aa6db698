-- FIPS 180-4, sections 2.2.2, 3.2 and 4.1.2: words of 32 bits, and the six functions of SHA-256. A word is a number
-- below 2 ^ 32. Assumes nothing.
use Rattle.std.specs.Prelude.{ℕ, ◌+◌, ◌-◌, ◌*◌, ◌/◌, ◌%◌, ◌^◌, bit_and, bit_or, bit_xor}

-- ---- 2.2.2 and 3.2: operations. AND, OR and XOR are `bit_and`, `bit_or` and `bit_xor` of the library.

-- addition modulo 2 ^ 32
abbrev pub plus : ℕ → ℕ → ℕ
plus x y = (x + y) % 2 ^ 32

-- every bit turned over
abbrev pub complement : ℕ → ℕ
complement x = (2 ^ 32 - 1) - x

-- SHR: n bits to the right, the last n are lost
abbrev pub shr : ℕ → ℕ → ℕ
shr n x = x / 2 ^ n

-- n bits to the left, the first n are lost
abbrev pub shl : ℕ → ℕ → ℕ
shl n x = (x * 2 ^ n) % 2 ^ 32

-- ROTR: n bits to the right, the last n come back in front
abbrev pub rotr : ℕ → ℕ → ℕ
rotr n x = bit_or (shr n x) (shl (32 - n) x)

-- ---- 4.1.2: the six functions

unfoldable pub Ch : ℕ → ℕ → ℕ → ℕ
Ch x y z = bit_xor (bit_and x y) (bit_and (complement x) z)

unfoldable pub Maj : ℕ → ℕ → ℕ → ℕ
Maj x y z = bit_xor (bit_xor (bit_and x y) (bit_and x z)) (bit_and y z)

unfoldable pub Σ0 : ℕ → ℕ
Σ0 x = bit_xor (bit_xor (rotr 2 x) (rotr 13 x)) (rotr 22 x)

unfoldable pub Σ1 : ℕ → ℕ
Σ1 x = bit_xor (bit_xor (rotr 6 x) (rotr 11 x)) (rotr 25 x)

unfoldable pub σ0 : ℕ → ℕ
σ0 x = bit_xor (bit_xor (rotr 7 x) (rotr 18 x)) (shr 3 x)

unfoldable pub σ1 : ℕ → ℕ
σ1 x = bit_xor (bit_xor (rotr 17 x) (rotr 19 x)) (shr 10 x)
