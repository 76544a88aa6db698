-- What the loops are lent and count: the six bits of each byte as a table, and a byte outside the alphabet.
-- Assumes nothing.
use Rattle.std.specs.Prelude.{ℕ, zero, suc, ◌+◌, List, [], ◌∷◌}
use Rattle.scan.specs.Choice.{pick}
use Rattle.base64text.specs.Base64.{six_bits, in_alphabet}

-- the six bits of n bytes, from b on
abbrev pub bits_from : ℕ → ℕ → List ℕ
bits_from zero b = []
bits_from (suc n) b = six_bits b ∷ bits_from n (b + 1)

-- the six bits of each byte
unfoldable pub bits_table : List ℕ
bits_table = bits_from 256 0

-- 1 for a byte outside the alphabet
unfoldable pub is_outside : ℕ → ℕ
is_outside b = pick (in_alphabet b) 0 1
