-- A digit and its value: each gives the other back, and a value below 16 is exactly what a digit has.
-- By the ranges 0-9 and a-f: in each of them the value and the digit are a sum.
use Prim.Native.Nat.{ℕ, ◌+◌, ◌-◌, ◌<◌, ◌≤◌}
use mathlib.Core.Path.{◌≡◌}
use mathlib.Core.Logic.{dite}
use native.Mathlib.Omega.{arith}
use native.Mathlib.Decide.{dec_lt}
use borrow.Author.Tests.{lt-ltb, le-ltb, le-leb, lt-leb}
use Rattle.scan.specs.Place.{within}
use Rattle.scan.proofs.PlaceLaws.{within_bounds}
use Rattle.scan.proofs.Step.{pick_by}
use Rattle.hexdigits.specs.Hex.{value_of, digit_of}
use Rattle.hexdigits.specs.inner.LowerHex.{number, letter, LowerHex}

-- the value of 0-9
value_number : (b : ℕ) → 48 ≤ b → b ≤ 57 → value_of b ≡ b - 48
unfolding value_of within
value_number b l h = simp (le-leb 48 b l, le-leb b 57 h)

-- the value of a-f
value_letter : (b : ℕ) → 97 ≤ b → b ≤ 102 → value_of b ≡ b - 87
unfolding value_of within
value_letter b l h = simp (le-leb 48 b (omega arith), lt-leb b 57 (omega arith), le-leb 97 b l, le-leb b 102 h)

-- a value is at most 16
pub value_most : (b : ℕ) → value_of b ≤ 16
unfolding value_of
value_most b =
    pick_by (λ (v : ℕ). v ≤ 16) (within 48 57 b) (λ t. let r = within_bounds 48 57 b t in omega arith)
    (λ f. pick_by (λ (v : ℕ). v ≤ 16) (within 97 102 b) (λ t. let r = within_bounds 97 102 b t in omega arith) (λ g. omega arith))

-- a digit has a value below 16
pub digit_value : {b : ℕ} → LowerHex b → value_of b < 16
digit_value {b} (number l h) = omega (arith, value_number b l h)
digit_value {b} (letter l h) = omega (arith, value_letter b l h)

-- only a digit has a value below 16
pub value_digit : (b : ℕ) → value_of b < 16 → LowerHex b
unfolding value_of
value_digit b =
    pick_by (λ (v : ℕ). v < 16 → LowerHex b) (within 48 57 b) (λ t h. let r = within_bounds 48 57 b t in number r.0 r.1)
    (λ f.
    pick_by (λ (v : ℕ). v < 16 → LowerHex b) (within 97 102 b) (λ t h. let r = within_bounds 97 102 b t in letter r.0 r.1)
    (λ g h. absurd (omega arith)))

-- the digit of a value below 16 is a digit
pub digit_written : (v : ℕ) → v < 16 → LowerHex (digit_of v)
digit_written v h =
    dite (dec_lt v 10) (λ p. rw (lt-ltb v 10 p) (number {b = 48 + v} (omega arith) (omega arith)))
    (λ q. rw (le-ltb v 10 (omega (arith, q))) (letter {b = 87 + v} (omega (arith, q)) (omega arith)))

-- the digit of a value has that value
pub value_of_digit : (v : ℕ) → v < 16 → value_of (digit_of v) ≡ v
value_of_digit v h =
    dite (dec_lt v 10) (λ p. rw (lt-ltb v 10 p) (omega (arith, value_number (48 + v) (omega arith) (omega arith))))
    (λ q. rw (le-ltb v 10 (omega (arith, q))) (omega (arith, value_letter (87 + v) (omega (arith, q)) (omega arith))))

-- a digit is the digit of its value
pub digit_of_value : (b : ℕ) → value_of b < 16 → digit_of (value_of b) ≡ b
digit_of_value b h = go (value_digit b h)
  where
    go : LowerHex b → digit_of (value_of b) ≡ b
    go (number l k) = rw (value_number b l k, lt-ltb (b - 48) 10 (omega arith)) (omega arith)
    go (letter l k) = rw (value_letter b l k, le-ltb (b - 87) 10 (omega arith)) (omega arith)

-- a digit is ASCII
pub digit_ascii : {b : ℕ} → LowerHex b → b < 128
digit_ascii (number l h) = omega arith
digit_ascii (letter l h) = omega arith
