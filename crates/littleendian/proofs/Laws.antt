-- The laws of numbers as bytes: a number and its bytes determine each other, n bytes are a number below 256 ^ n.
-- By induction on the bytes; each step is one division by 256.
use Prim.Native.Nat.{ℕ, zero, suc, ◌+◌, ◌*◌, ◌-◌, ◌/◌, ◌%◌, ◌≤◌, ◌<◌, ◌^◌}
use mathlib.Core.Path.{◌≡◌, refl, sym, ap, ◌∙◌}
use mathlib.Core.List.{List, [], ◌∷◌, ◌++◌}
use mathlib.Core.Logic.{dite}
use native.Mathlib.Nat.{pow-succ', zero-add, div-div-eq-div-mul}
use native.Mathlib.Omega.{arith}
use native.Mathlib.Decide.{dec_lt}
use lib.ListN.{length, take, drop, replicate}
use Rattle.std.specs.Int.{w64, from_le_bytes, to_le_bytes}
use Rattle.buffer.proofs.Laws.{puts_eq, kept}
use Rattle.buffer.specs.inner.Store.{Buffer, Wrote}
use lib.Seq.{take_all}
use Rattle.std.proofs.lemmas.List.{drop-replicate}
use Rattle.scan.specs.Bytes.{none, also, IsBytes}
use Rattle.scan.specs.Place.{byte_at}
use Rattle.scan.proofs.Step.{rest_more, part_none, byte_none}
use Rattle.littleendian.specs.LittleEndian.{number_of, low_first}

-- ---- bytes as a number

-- the byte at a place, and then the number of those behind it; past the end both are 0
pub number_one : (n : ℕ) (s : List ℕ) (i : ℕ) → number_of (take (suc n) (drop i s)) ≡ byte_at s i + 256 * number_of (take n (drop (i + 1) s))
unfolding number_of
number_one n s i =
    dite (dec_lt i (length s))
    (λ p. rw (rest_more s i p))
    (λ q.
    let e : length s ≤ i = omega (arith, q) in
    rw (part_none s i (suc n) e, part_none s (i + 1) n (omega (arith, e)), byte_none s i e))

-- the first eight bytes
pub number_eight : (s : List ℕ)
    → number_of (take 8 s) ≡ byte_at s 0 + 256 * (byte_at s 1 + 256 * (byte_at s 2 + 256 * (byte_at s 3 + 256 * (byte_at s 4 + 256 * (byte_at s 5 + 256 * (byte_at s 6 + 256 * (byte_at s 7 + 256 * 0)))))))
unfolding number_of
number_eight s =
    omega (arith, number_one 7 s 0, number_one 6 s 1, number_one 5 s 2, number_one 4 s 3, number_one 3 s 4, number_one 2 s 5, number_one 1 s 6, number_one 0 s 7)

-- which are what the library reads of eight
pub number_le : (s : List ℕ) → from_le_bytes w64 s ≡ number_of (take 8 s)
number_le s = omega (arith, number_eight s)

-- and those behind which zeros stand
number_zeros : (s : List ℕ) (k : ℕ) → number_of (s ++ replicate k 0) ≡ number_of s
unfolding number_of
number_zeros [] zero = refl
number_zeros [] (suc k) = omega (arith, number_zeros [] k)
number_zeros (b ∷ s) k = ap (λ (n : ℕ). b + 256 * n) (number_zeros s k)

-- fewer bytes, read with zeros behind them
pub number_short : {s b : List ℕ} {r : ℕ} → length s < 8 → Wrote (replicate 8 0) 0 s b r → from_le_bytes w64 b ≡ number_of (take 8 s)
number_short {s} {b} h w =
    let zeros : List ℕ = replicate (8 - length s) 0 in
    let put = puts_eq (replicate 8 0) 0 s (omega arith) in
    let e : b ≡ s ++ zeros = ap (λ (c : Buffer). c.0) (w.is ∙ put) ∙ rw (drop-replicate, zero-add) refl in
    let all : take 8 b ≡ s ++ zeros = take_all 8 b (omega (arith, kept w)) ∙ e in
    number_le b ∙ ap number_of all ∙ number_zeros s (8 - length s) ∙ sym (ap number_of (take_all 8 s (omega arith)))

-- so many bytes are a number below that power of 256: eight below 2 ^ 64, seven below 2 ^ 56
pub number_most : (n : ℕ) (l : List ℕ) → IsBytes l → length l ≤ n → number_of l < 256 ^ n
unfolding number_of
number_most zero [] b h = omega arith
number_most zero (x ∷ l) b h = absurd (omega arith)
number_most (suc n) [] b h = omega (arith, pow-succ' 256 n, number_most n [] none (omega arith))
number_most (suc n) (x ∷ l) (also p b) h = omega (arith, pow-succ' 256 n, p, number_most n l b (omega arith))

-- ---- a number as bytes

pub length_low : (n v : ℕ) → length (low_first n v) ≡ n
unfolding low_first
length_low zero v = refl
length_low (suc n) v = ap suc (length_low n (v / 256))

pub low_bytes : (n v : ℕ) → IsBytes (low_first n v)
unfolding low_first
low_bytes zero v = none
low_bytes (suc n) v = also {b = v % 256} (omega arith) (low_bytes n (v / 256))

-- the library's bytes of a number of 64 bits
pub low_le : (v : ℕ) → to_le_bytes w64 v ≡ low_first 8 v
unfolding low_first
low_le v = simp div-div-eq-div-mul

-- ---- back again

pub bytes_back : (l : List ℕ) → IsBytes l → low_first (length l) (number_of l) ≡ l
unfolding number_of low_first
bytes_back [] none = refl
bytes_back (x ∷ l) (also p b) =
    let e : (x + 256 * number_of l) % 256 ≡ x = omega (arith, p) in
    let f : (x + 256 * number_of l) / 256 ≡ number_of l = omega (arith, p) in
    rw (e, f, bytes_back l b)

pub number_back : (n v : ℕ) → v < 256 ^ n → number_of (low_first n v) ≡ v
unfolding number_of low_first
number_back zero v h = omega (arith, h)
number_back (suc n) v h = rw (number_back n (v / 256) (omega (arith, h, pow-succ' 256 n))) (omega arith)

-- ---- the turns of the writer: k bytes of n are written

pub low_more : (n k v : ℕ) → k < n → low_first (n - k) v ≡ v % 256 ∷ low_first (n - (k + 1)) (v / 256)
unfolding low_first
low_more n k v h = let e : n - k ≡ suc (n - (k + 1)) = omega arith in rw e

pub low_none : (n k v : ℕ) → n ≤ k → low_first (n - k) v ≡ []
unfolding low_first
low_none n k v h = let e : n - k ≡ 0 = omega arith in rw e
