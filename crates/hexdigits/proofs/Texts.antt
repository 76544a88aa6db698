-- Texts of digits and their bytes: `hexes` and `unhex` give each other back, keep `++`, and double and halve the
-- length.
-- By induction on the bytes, or on the text two digits at a time; each step is one law of `Digits`.
use Prim.Native.Nat.{ℕ, ◌+◌, ◌*◌, ◌/◌, ◌%◌, ◌<◌}
use mathlib.Core.Path.{◌≡◌, refl, sym, ap, ◌∙◌}
use mathlib.Core.Bool.{Bool, true, false}
use mathlib.Core.List.{List, [], ◌∷◌, ◌++◌}
use native.Mathlib.Omega.{arith}
use lib.ListN.{length}
use lib.Dec.{ltb, eqb}
use borrow.Author.Tests.{lt-ltb, ltb-true, eq-eqb, ne_eqb, eqb-true, eqb-false}
use Rattle.scan.specs.Choice.{pick}
use Rattle.scan.specs.Bytes.{All, none, also, IsBytes}
use Rattle.scan.proofs.Step.{pick_true, false_true}
use Rattle.hexdigits.specs.Hex.{value_of, digit_of, hexes, unhex, all_digits, goes_as_bytes}
use Rattle.hexdigits.specs.inner.LowerHex.{LowerHex}
use Rattle.hexdigits.proofs.Digits.{digit_value, value_digit, digit_written, value_of_digit, digit_of_value, digit_ascii}

-- ---- bytes as digits

-- two digits for each byte
pub length_hexes : (l : List ℕ) → length (hexes l) ≡ 2 * length l
length_hexes [] = refl
length_hexes (b ∷ l) = omega (arith, length_hexes l)

-- bytes are written as digits alone
pub hexes_digits : {l : List ℕ} → IsBytes l → All LowerHex (hexes l)
hexes_digits none = none
hexes_digits (also {b = b} h r) = also (digit_written (b / 16) (omega arith)) (also (digit_written (b % 16) (omega arith)) (hexes_digits r))

-- bytes in parts
pub hexes_append : (l m : List ℕ) → hexes (l ++ m) ≡ hexes l ++ hexes m
hexes_append [] m = refl
hexes_append (b ∷ l) m = rw (hexes_append l m)

-- what is written as digits reads back
pub unhex_hexes : {l : List ℕ} → IsBytes l → unhex (hexes l) ≡ l
unfolding unhex
unhex_hexes none = refl
unhex_hexes (also {b = b} h r) =
    let high = value_of_digit (b / 16) (omega arith) in
    let low = value_of_digit (b % 16) (omega arith) in
    let whole : 16 * (value_of (digit_of (b / 16)) % 16) + value_of (digit_of (b % 16)) % 16 ≡ b = omega arith in
    rw (unhex_hexes r, whole)

-- two lists of bytes are never written alike
pub hexes_injective : {l m : List ℕ} → IsBytes l → IsBytes m → hexes l ≡ hexes m → l ≡ m
hexes_injective p q e = sym (unhex_hexes p) ∙ ap unhex e ∙ unhex_hexes q

-- ---- digits as bytes

-- a byte for each two digits
pub length_unhex : (t : List ℕ) → length (unhex t) ≡ length t / 2
unfolding unhex
length_unhex [] = refl
length_unhex (a ∷ []) = refl
length_unhex (a ∷ b ∷ t) = omega (arith, length_unhex t)

-- every byte is below 256
pub unhex_bytes : (t : List ℕ) → IsBytes (unhex t)
unfolding unhex
unhex_bytes [] = none
unhex_bytes (a ∷ []) = none
unhex_bytes (a ∷ b ∷ t) = also {b = 16 * (value_of a % 16) + value_of b % 16} (omega arith) (unhex_bytes t)

-- digits in parts, the first of even length
pub unhex_append : (t u : List ℕ) → length t % 2 ≡ 0 → unhex (t ++ u) ≡ unhex t ++ unhex u
unfolding unhex
unhex_append [] u h = refl
unhex_append (a ∷ []) u h = absurd (omega arith)
unhex_append (a ∷ b ∷ t) u h = rw (unhex_append t u (omega arith))

-- digits of even length are what is written for their bytes
pub hexes_unhex : {t : List ℕ} → All LowerHex t → length t % 2 ≡ 0 → hexes (unhex t) ≡ t
unfolding unhex
hexes_unhex none h = refl
hexes_unhex (also p none) h = absurd (omega arith)
hexes_unhex (also {b = a} p (also {b = b} q r)) h =
    let x = digit_value p in
    let y = digit_value q in
    let byte = 16 * (value_of a % 16) + value_of b % 16 in
    let high : byte / 16 ≡ value_of a = omega arith in
    let low : byte % 16 ≡ value_of b = omega arith in
    rw (high, low, digit_of_value a x, digit_of_value b y, hexes_unhex r (omega arith))

-- two texts of digits of even length never have the same bytes
pub unhex_injective : {t u : List ℕ} → All LowerHex t → length t % 2 ≡ 0 → All LowerHex u → length u % 2 ≡ 0 → unhex t ≡ unhex u → t ≡ u
unhex_injective p h q k e = sym (hexes_unhex p h) ∙ ap hexes e ∙ hexes_unhex q k

-- ---- the tests

-- a text of digits passes
pub digits_pass : {t : List ℕ} → All LowerHex t → all_digits t ≡ true
unfolding all_digits
digits_pass none = refl
digits_pass (also {b = b} p r) = rw (lt-ltb (value_of b) 16 (digit_value p)) (digits_pass r)

-- only a text of digits passes
pub pass_digits : (t : List ℕ) → all_digits t ≡ true → All LowerHex t
unfolding all_digits
pass_digits [] h = none
pass_digits (b ∷ t) h = let u = pick_true (ltb (value_of b) 16) (all_digits t) h in also (value_digit b (ltb-true (value_of b) 16 u.0)) (pass_digits t u.1)

-- digits of even length, and at least one, go as bytes
pub digits_go : {t : List ℕ} → 0 < length t → length t % 2 ≡ 0 → All LowerHex t → goes_as_bytes t ≡ true
unfolding goes_as_bytes
digits_go {t} some even all = rw (ne_eqb (length t) 0 (λ e. omega arith), eq-eqb (length t % 2) 0 even) (digits_pass all)

not_first : (t x : Bool) → pick t false x ≡ true → (t ≡ false) × (x ≡ true)
not_first true x h = absurd (false_true h)
not_first false x h = (refl, h)

-- only digits of even length, and at least one, go as bytes
pub go_digits : (t : List ℕ) → goes_as_bytes t ≡ true → (0 < length t) × (length t % 2 ≡ 0) × All LowerHex t
unfolding goes_as_bytes
go_digits t h =
    let u = not_first (eqb (length t) 0) (pick (eqb (length t % 2) 0) (all_digits t) false) h in
    let v = pick_true (eqb (length t % 2) 0) (all_digits t) u.1 in
    let some = eqb-false (length t) 0 u.0 in
    (omega (arith, some), eqb-true (length t % 2) 0 v.0, pass_digits t v.1)

-- bytes that are written go as bytes again
pub hexes_go : {l : List ℕ} → 0 < length l → IsBytes l → goes_as_bytes (hexes l) ≡ true
hexes_go {l} some all = let n = length_hexes l in digits_go (omega arith) (omega arith) (hexes_digits all)

-- a text of digits is ASCII
pub digits_ascii : {t : List ℕ} → All LowerHex t → All (λ (b : ℕ). b < 128) t
digits_ascii none = none
digits_ascii (also p r) = also (digit_ascii p) (digits_ascii r)

-- digits in parts
pub digits_append : (a b : List ℕ) → all_digits (a ++ b) ≡ pick (all_digits a) (all_digits b) false
unfolding all_digits
digits_append [] b = refl
digits_append (x ∷ a) b = go (digits_append a b) (ltb (value_of x) 16)
  where
    go : all_digits (a ++ b) ≡ pick (all_digits a) (all_digits b) false → (t : Bool) → pick t (all_digits (a ++ b)) false ≡ pick (pick t (all_digits a) false) (all_digits b) false
    go e true = e
    go e false = refl
