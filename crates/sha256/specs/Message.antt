-- FIPS 180-4, sections 5.1.1 and 6.2: the padding behind a message of whole bytes, and its digest. Assumes nothing.
use Rattle.std.specs.Prelude.{ℕ, ◌-◌, ◌*◌, ◌/◌, ◌%◌, ◌^◌, List, [], ◌∷◌, ◌++◌, length, replicate}
use Rattle.sha256.specs.declared.Words.{Words}
use Rattle.sha256.specs.Constants.{initial}
use Rattle.sha256.specs.Compression.{blocks}

-- ---- numbers as bytes, the highest first

-- a word
unfoldable pub word_bytes : ℕ → List ℕ
word_bytes x = (x / 2 ^ 24) % 256 ∷ (x / 2 ^ 16) % 256 ∷ (x / 2 ^ 8) % 256 ∷ x % 256 ∷ []

-- a number of 64 bits
unfoldable pub long_bytes : ℕ → List ℕ
long_bytes n = word_bytes (n / 2 ^ 32) ++ word_bytes (n % 2 ^ 32)

-- the 32 bytes of a hash value
unfoldable pub digest_bytes : Words → List ℕ
digest_bytes v =
    word_bytes v.a ++ word_bytes v.b ++ word_bytes v.c ++ word_bytes v.d
    ++ word_bytes v.e ++ word_bytes v.f ++ word_bytes v.g ++ word_bytes v.h

-- ---- 5.1.1: the padding of a message of n bytes

-- the fewest zero bytes with which byte 80 and eight bytes of length end a block
unfoldable pub zeros_behind : ℕ → ℕ
zeros_behind n = (119 - n % 64) % 64

-- bit 1 and seven bits 0, so many zero bytes, and the length in bits
unfoldable pub padding : ℕ → List ℕ
padding n = (128 ∷ []) ++ replicate (zeros_behind n) 0 ++ long_bytes (8 * n)

-- ---- 6.2: the digest

-- the whole blocks of l, hashed from h on; what is behind them does not count
unfoldable pub hashed : Words → List ℕ → Words
hashed h l = blocks (length l / 64) h l

-- the digest of a message; a length of 2 ^ 61 bytes or more counts modulo 2 ^ 61 (FIPS has none so long)
unfoldable pub digest : List ℕ → List ℕ
digest m = digest_bytes (hashed initial (m ++ padding (length m)))
