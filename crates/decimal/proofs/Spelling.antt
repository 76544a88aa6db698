-- The decimal spelling: its digits, its length, and that it reads back to its number and is the only one without a
-- leading zero.
-- Everything goes by `decimal_last` and `decimal_more`: a number below 10 is one digit, and any other is the spelling
-- of n / 10 and then n % 10.
use Prim.Native.Nat.{ℕ, zero, suc, ◌+◌, ◌*◌, ◌-◌, ◌/◌, ◌%◌, ◌^◌, ◌<◌, ◌≤◌}
use mathlib.Core.Path.{◌≡◌, refl, sym, ap, ◌∙◌}
use mathlib.Core.List.{List, [], ◌∷◌, ◌++◌, append-nil, append_assoc}
use mathlib.Core.Logic.{dite}
use native.Mathlib.Nat.{zero-add, pow-succ', one-le-pow}
use native.Mathlib.Omega.{arith}
use native.Mathlib.Decide.{dec_lt, dec_le, ℕ_discrete}
use lib.ListN.{length, get_or, length-append, get_or-append}
use borrow.Author.Tests.{lt-ltb, le-ltb}
use Rattle.scan.specs.Bytes.{All, none, also}
use Rattle.scan.proofs.AllLaws.{all_append}
use Rattle.decimal.specs.Decimal.{DecimalDigit, digit, behind, number_of, decimal_in, decimal}

-- ---- the two steps of the spelling

in_last : (k n : ℕ) → n < 10 → decimal_in k n ≡ (48 + n) ∷ []
unfolding decimal_in
in_last zero n h = refl
in_last (suc k) n h = simp (lt-ltb n 10 h)

in_same : (j k n : ℕ) → n ≤ j → n ≤ k → decimal_in j n ≡ decimal_in k n
unfolding decimal_in
in_same zero k n p q = sym (in_last k n (omega arith))
in_same (suc j) zero n p q = in_last (suc j) n (omega arith)
in_same (suc j) (suc k) n p q = rw (in_same j k (n / 10) (omega arith) (omega arith))

-- a number below 10 is its digit
pub decimal_last : (n : ℕ) → n < 10 → decimal n ≡ (48 + n) ∷ []
unfolding decimal
decimal_last n h = in_last n n h

-- any other number is the spelling of its tenth and its last digit
pub decimal_more : (n : ℕ) → 10 ≤ n → decimal n ≡ decimal (n / 10) ++ ((48 + n % 10) ∷ [])
unfolding decimal decimal_in
decimal_more n h =
    in_same n (suc n) n (omega arith) (omega arith)
    ∙ simp (le-ltb n 10 h, in_same n (n / 10) (n / 10) (omega arith) (omega arith))

-- what holds of the numbers below 10, and of a number where it holds of its tenth, holds of every number
pub by_tenths : (P : ℕ → Type 0) → ((n : ℕ) → n < 10 → P n) → ((n : ℕ) → 10 ≤ n → P (n / 10) → P n) → (n : ℕ) → P n
by_tenths P last more n = go n n (omega arith)
  where
    go : (k n : ℕ) → n ≤ k → P n
    go zero n h = last n (omega arith)
    go (suc k) n h = dite (dec_lt n 10) (λ p. last n p) (λ q. more n (omega (arith, q)) (go k (n / 10) (omega (arith, q))))

-- ---- the length

-- a number below 10 has one digit
pub length_last : (n : ℕ) → n < 10 → length (decimal n) ≡ 1
length_last n h = ap length (decimal_last n h)

-- any other number has one digit more than its tenth
pub length_more : (n : ℕ) → 10 ≤ n → length (decimal n) ≡ length (decimal (n / 10)) + 1
length_more n h = ap length (decimal_more n h) ∙ length-append (decimal (n / 10)) ((48 + n % 10) ∷ [])

-- from a power of ten on, and below the next, a number has one digit more than the power has zeros
pub length_power : (k n : ℕ) → 10 ^ k ≤ n → n < 10 * 10 ^ k → length (decimal n) ≡ k + 1
length_power zero n l h = length_last n (omega (arith, h))
length_power (suc k) n l h =
    let p = pow-succ' 10 k in
    omega (arith, length_more n (omega (arith, l, p, one-le-pow k 10 (omega arith))), length_power k (n / 10) (omega (arith, l, p)) (omega (arith, h, p)))

-- a number below 10 ^ (k + 1) has at most k + 1 digits
pub length_most : (k n : ℕ) → n < 10 ^ suc k → length (decimal n) ≤ suc k
length_most zero n h = omega (arith, length_last n h)
length_most (suc k) n h =
    dite (dec_lt n 10) (λ p. omega (arith, length_last n p))
    (λ q.
    let m : 10 ≤ n = omega (arith, q) in
    let t : n / 10 < 10 ^ suc k = omega (arith, h, pow-succ' 10 (suc k)) in
    omega (arith, length_more n m, length_most k (n / 10) t))

-- every number has a digit
pub length_some : (n : ℕ) → 0 < length (decimal n)
length_some n = dite (dec_lt n 10) (λ p. omega (arith, length_last n p)) (λ q. omega (arith, length_more n (omega (arith, q))))

-- a number from 10 ^ k on has more than k digits
pub length_least : (k n : ℕ) → 10 ^ k ≤ n → k < length (decimal n)
length_least zero n h = length_some n
length_least (suc k) n h =
    let p = pow-succ' 10 k in
    let m : 10 ≤ n = omega (arith, one-le-pow k 10 (omega arith)) in
    let t : 10 ^ k ≤ n / 10 = omega arith in
    omega (arith, length_more n m, length_least k (n / 10) t)

-- a number of 64 bits has at most 20 digits
pub length_u64 : (n : ℕ) → n < 2 ^ 64 → length (decimal n) ≤ 20
length_u64 n h = length_most 19 n (omega arith)

-- a number of 16 bits has at most 5 digits
pub length_u16 : (n : ℕ) → n ≤ 65535 → length (decimal n) ≤ 5
length_u16 n h = length_most 4 n (omega arith)

-- a number of the ten-digit range has ten digits
pub length_ten : (n : ℕ) → 1000000000 ≤ n → n ≤ 9999999999 → length (decimal n) ≡ 10
length_ten n l h = omega (arith, length_most 9 n (omega arith), length_least 9 n (omega arith))

-- a number that has ten digits is of the ten-digit range
pub ten_length : (n : ℕ) → length (decimal n) ≡ 10 → (1000000000 ≤ n) × (n ≤ 9999999999)
ten_length n e = (
  dite (dec_le 1000000000 n) (λ p. p) (λ q. absurd (omega (arith, q, length_most 8 n (omega (arith, q))))),
  dite (dec_le n 9999999999) (λ p. p) (λ q. absurd (omega (arith, q, length_least 10 n (omega (arith, q))))),
)

-- ---- the digits

-- only digits are written
pub decimal_digits : (n : ℕ) → All DecimalDigit (decimal n)
decimal_digits =
    by_tenths (λ (n : ℕ). All DecimalDigit (decimal n)) (λ n h. rw (decimal_last n h) (one n h))
    (λ n h r. rw (decimal_more n h) (all_append r (one (n % 10) (omega arith))))
  where
    one : (d : ℕ) → d < 10 → All DecimalDigit ((48 + d) ∷ [])
    one d h = also (digit {b = 48 + d} (omega arith) (omega arith)) none

-- the first digit is 0 for the number 0 alone
pub decimal_first : (n : ℕ) → get_or (decimal n) 0 0 ≡ 48 → n ≡ 0
decimal_first =
    by_tenths (λ (n : ℕ). get_or (decimal n) 0 0 ≡ 48 → n ≡ 0) (λ n h e. let f = rw (decimal_last n h) at e in omega arith)
    (λ n h r e.
    let f = rw (decimal_more n h) at e in
    let g = get_or-append (decimal (n / 10)) ((48 + n % 10) ∷ []) 0 0 (length_some (n / 10)) in
    let z = r (sym g ∙ f) in
    omega arith)

-- ---- reading back

-- digits behind digits
pub behind_append : (n : ℕ) (l m : List ℕ) → behind n (l ++ m) ≡ behind (behind n l) m
behind_append n [] m = refl
behind_append n (b ∷ l) m = behind_append (n * 10 + (b - 48)) l m

-- a digit more never makes a number smaller
pub behind_grows : (n : ℕ) (l : List ℕ) → n ≤ behind n l
behind_grows n [] = omega arith
behind_grows n (b ∷ l) = omega (arith, behind_grows (n * 10 + (b - 48)) l)

-- what is written reads back
pub number_decimal : (n : ℕ) → number_of (decimal n) ≡ n
number_decimal =
    by_tenths (λ (n : ℕ). number_of (decimal n) ≡ n) (λ n h. rw (decimal_last n h) (omega arith))
    (λ n h r. rw (decimal_more n h, behind_append 0 (decimal (n / 10)) ((48 + n % 10) ∷ []), r) (omega arith))

-- two numbers are never written alike
pub decimal_injective : (m n : ℕ) → decimal m ≡ decimal n → m ≡ n
decimal_injective m n e = sym (number_decimal m) ∙ ap number_of e ∙ number_decimal n

-- digits behind a number that is not 0 spell on
decimal_behind : (n : ℕ) {l : List ℕ} → 0 < n → All DecimalDigit l → decimal (behind n l) ≡ decimal n ++ l
decimal_behind n h none = sym (append-nil (decimal n))
decimal_behind n h (also {b = b} {l = l} (digit p q) r) =
    let m = n * 10 + (b - 48) in
    let t : m / 10 ≡ n = omega arith in
    let d : 48 + m % 10 ≡ b = omega arith in
    decimal_behind m (omega arith) r ∙ rw (decimal_more m (omega arith), t, d) (append_assoc (decimal n) (b ∷ []) l)

-- the spelling is the only one: digits with no leading zero, unless 0 stands alone, are what is written for their
-- number
pub decimal_unique : (b : ℕ) (l : List ℕ) → All DecimalDigit (b ∷ l) → (b ≡ 48 → l ≡ []) → decimal (number_of (b ∷ l)) ≡ b ∷ l
decimal_unique b l (also (digit p q) r) lone =
    dite (ℕ_discrete b 48)
    (λ e. rw (lone e, e) (decimal_last 0 (omega arith)))
    (λ f.
    let d : 48 + (b - 48) ≡ b = omega arith in
    rw (zero-add, decimal_behind (b - 48) (omega (arith, f)) r, decimal_last (b - 48) (omega arith), d))
