-- A word and its four bytes determine each other; a hash value has 32 bytes; hashing leaves words.
-- By arithmetic on the base 256, and by induction on the blocks.
use Rattle.std.proofs.Common.{◌≡◌, ℕ, zero, suc, ◌+◌, ◌*◌, ◌/◌, ◌%◌, ◌^◌, ◌<◌, List, [], ◌∷◌, length, take, drop, refl, arith}
use Rattle.sha256.specs.declared.Words.{Words}
use Rattle.sha256.specs.Constants.{initial}
use Rattle.sha256.specs.Compression.{AreWords, word_of, schedule, words_of, rounds, add_words, compress, blocks}
use Rattle.sha256.specs.Message.{word_bytes, digest_bytes, hashed}

pub word_back : (a b c d : ℕ) → a < 256 → b < 256 → c < 256 → d < 256 → word_bytes (word_of a b c d) ≡ a ∷ b ∷ c ∷ d ∷ []
unfolding word_bytes word_of
word_back a b c d p q r s =
    let x : ℕ = a * 2 ^ 24 + b * 2 ^ 16 + c * 2 ^ 8 + d in
    let e : (x / 2 ^ 24) % 256 ≡ a = omega arith in
    let f : (x / 2 ^ 16) % 256 ≡ b = omega arith in
    let g : (x / 2 ^ 8) % 256 ≡ c = omega arith in
    let h : x % 256 ≡ d = omega arith in
    rw (e, f, g, h)

-- one byte more
digit : (x y : ℕ) → y ≡ x / 256 → y * 256 + x % 256 ≡ x
digit x y e = omega arith

pub word_read : (x : ℕ) → x < 2 ^ 32 → word_of ((x / 2 ^ 24) % 256) ((x / 2 ^ 16) % 256) ((x / 2 ^ 8) % 256) (x % 256) ≡ x
unfolding word_of
word_read x h =
    let a : x / 2 ^ 24 % 256 ≡ x / 2 ^ 24 = omega arith in
    let p = digit (x / 2 ^ 16) (x / 2 ^ 24) (omega arith) in
    let q = digit (x / 2 ^ 8) (x / 2 ^ 16) (omega arith) in
    let r = digit x (x / 2 ^ 8) (omega arith) in
    rw a (sum (x / 2 ^ 24) (x / 2 ^ 16) (x / 2 ^ 8) x ((x / 2 ^ 16) % 256) ((x / 2 ^ 8) % 256) (x % 256) p q r)
  where
    sum : (u z y x k j i : ℕ) → u * 256 + k ≡ z → z * 256 + j ≡ y → y * 256 + i ≡ x → u * 2 ^ 24 + k * 2 ^ 16 + j * 2 ^ 8 + i ≡ x
    sum u z y x k j i p q r = omega arith

pub length_digest : (v : Words) → length (digest_bytes v) ≡ 32
unfolding digest_bytes word_bytes
length_digest v = refl

-- ---- hashing leaves words

sums_words : (x y : Words) → AreWords (add_words x y)
unfolding add_words
sums_words x y = (omega arith, omega arith, omega arith, omega arith, omega arith, omega arith, omega arith, omega arith)

blocks_words : (n : ℕ) (h : Words) (l : List ℕ) → AreWords h → AreWords (blocks n h l)
unfolding blocks compress
blocks_words zero h l w = w
blocks_words (suc n) h l w =
    blocks_words n (compress h (take 64 l)) (drop 64 l) (sums_words (rounds (schedule 48 (words_of (take 64 l))) 64 0 h) h)

pub hashed_words : (h : Words) (l : List ℕ) → AreWords h → AreWords (hashed h l)
unfolding hashed
hashed_words h l w = blocks_words (length l / 64) h l w

pub initial_words : AreWords initial
unfolding initial
initial_words = (omega arith, omega arith, omega arith, omega arith, omega arith, omega arith, omega arith, omega arith)
