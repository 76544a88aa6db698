-- FIPS 180-4, sections 4.2.2 and 5.3.3: the rule that the constants obey. They are bits of the roots of primes.
-- Assumes nothing.
use Rattle.std.specs.Prelude.{ℕ, zero, suc, ◌+◌, ◌*◌, ◌%◌, ◌^◌, Bool, true, false, List, [], ◌∷◌, ◌==◌, nat_le, nat_lt}
use Rattle.scan.specs.Choice.{pick}
use Rattle.sha256.specs.declared.Words.{Words}

-- no number from 2 up to k divides p
unfoldable pub undivided : ℕ → ℕ → Bool
undivided zero p = true
undivided (suc k) p = pick (nat_le (suc k) 1) true (pick (p % suc k == 0) false (undivided k p))

-- no smaller number from 2 on divides it
unfoldable pub is_prime : ℕ → Bool
is_prime zero = false
is_prime (suc k) = pick (nat_le 2 (suc k)) (undivided k (suc k)) false

-- k in front of l, where the test holds
abbrev pub in_front : Bool → ℕ → List ℕ → List ℕ
in_front true k l = k ∷ l
in_front false k l = l

-- the primes among the n numbers from k on
unfoldable pub primes_among : ℕ → ℕ → List ℕ
primes_among zero k = []
primes_among (suc n) k = in_front (is_prime k) k (primes_among n (k + 1))

-- the first sixty-four primes
unfoldable pub primes : List ℕ
primes =
    2 ∷ 3 ∷ 5 ∷ 7 ∷ 11 ∷ 13 ∷ 17 ∷ 19 ∷ 23 ∷ 29 ∷ 31 ∷ 37 ∷ 41 ∷ 43 ∷ 47 ∷ 53 ∷
    59 ∷ 61 ∷ 67 ∷ 71 ∷ 73 ∷ 79 ∷ 83 ∷ 89 ∷ 97 ∷ 101 ∷ 103 ∷ 107 ∷ 109 ∷ 113 ∷ 127 ∷ 131 ∷
    137 ∷ 139 ∷ 149 ∷ 151 ∷ 157 ∷ 163 ∷ 167 ∷ 173 ∷ 179 ∷ 181 ∷ 191 ∷ 193 ∷ 197 ∷ 199 ∷ 211 ∷ 223 ∷
    227 ∷ 229 ∷ 233 ∷ 239 ∷ 241 ∷ 251 ∷ 257 ∷ 263 ∷ 269 ∷ 271 ∷ 277 ∷ 281 ∷ 283 ∷ 293 ∷ 307 ∷ 311 ∷ []

-- the largest number up to k whose e-th power is at most p; for k = p the whole part of the e-th root of p
unfoldable pub whole_root : ℕ → ℕ → ℕ → ℕ
whole_root e zero p = 0
whole_root e (suc k) p = pick (nat_le (suc k ^ e) p) (suc k) (whole_root e k p)

-- w is the first 32 bits behind the point of the e-th root of p: x, the root's whole part with w behind it, is the
-- largest number whose e-th power is at most p times 2 ^ 32 to the e-th power
unfoldable pub root_bits : ℕ → ℕ → ℕ → Bool
root_bits e p w =
    let x = whole_root e p p * 2 ^ 32 + w in
    pick (nat_le (x ^ e) (p * (2 ^ 32) ^ e)) (nat_lt (p * (2 ^ 32) ^ e) ((x + 1) ^ e)) false

-- word for word, the bits of the e-th roots of the numbers ps
unfoldable pub all_root_bits : ℕ → List ℕ → List ℕ → Bool
all_root_bits e [] [] = true
all_root_bits e [] (w ∷ ws) = false
all_root_bits e (p ∷ ps) [] = false
all_root_bits e (p ∷ ps) (w ∷ ws) = pick (root_bits e p w) (all_root_bits e ps ws) false

-- the words of a hash value, in order
abbrev pub word_list : Words → List ℕ
word_list v = v.a ∷ v.b ∷ v.c ∷ v.d ∷ v.e ∷ v.f ∷ v.g ∷ v.h ∷ []
