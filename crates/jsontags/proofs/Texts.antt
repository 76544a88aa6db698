-- How the strings and arrays of tags are made, and how long each is, with either escaping; `k` says which.
-- Hex digits are none of the bytes that are escaped; the rest is counting.
use Prim.Native.Nat.{ℕ, suc, ◌+◌, ◌*◌, ◌≤◌}
use mathlib.Core.Path.{◌≡◌, sym, ap, ◌∙◌}
use mathlib.Core.List.{List, [], ◌∷◌, ◌++◌, append-nil}
use native.Mathlib.Omega.{arith}
use lib.ListN.{length, length-append}
use borrow.Author.Tests.{ne_eqb, lt-ltb}
use Rattle.scan.specs.Bytes.{All, none, also, IsBytes}
use Rattle.hexdigits.specs.Hex.{hexes}
use Rattle.hexdigits.specs.inner.LowerHex.{number, letter, LowerHex}
use Rattle.hexdigits.proofs.Texts.{length_hexes, hexes_digits}
use Rattle.escape.specs.declared.Escaping.{Escaping}
use Rattle.escape.specs.declared.Escaping.TheVariants.{Canonical, Nson}
use Rattle.escape.specs.Escape.{nson_byte, canonical_byte, escaped}
use Rattle.escape.specs.inner.Which.{byte_of}
use Rattle.escape.proofs.TextLaws.{escaped_none, escaped_more}
use Rattle.jsontags.specs.TagText.{quoted, commaed, array}
use Rattle.jsontags.specs.inner.Comma.{comma}

-- ---- what needs no escape

-- of a byte behind the quote that is no backslash (of crate escape)
byte_stands : (k : Escaping) (b : ℕ) → 0x23 ≤ b → (b ≡ 0x5C → ⊥) → byte_of k b ≡ b ∷ []
unfolding canonical_byte nson_byte
byte_stands Canonical b h n =
    simp (
      ne_eqb b 0x0D (λ e. omega arith),
      ne_eqb b 0x09 (λ e. omega arith),
      ne_eqb b 0x08 (λ e. omega arith),
      ne_eqb b 0x0C (λ e. omega arith),
      ne_eqb b 0x0A (λ e. omega arith),
      ne_eqb b 0x22 (λ e. omega arith),
      ne_eqb b 0x5C n,
    )
byte_stands Nson b h n = simp (ne_eqb b 0x0A (λ e. omega arith), ne_eqb b 0x22 (λ e. omega arith), ne_eqb b 0x5C n)

digit_stands : (k : Escaping) {b : ℕ} → LowerHex b → byte_of k b ≡ b ∷ []
digit_stands k {b} (number l h) = byte_stands k b (omega arith) (λ e. omega arith)
digit_stands k {b} (letter l h) = byte_stands k b (omega arith) (λ e. omega arith)

pub digits_stand : (k : Escaping) {t : List ℕ} → All LowerHex t → escaped (byte_of k) t ≡ t
digits_stand k none = escaped_none (byte_of k)
digits_stand k (also {b = b} {l = l} d a) = escaped_more (byte_of k) b l ∙ rw (digit_stands k d, digits_stand k a)

-- hex digits need no escape
pub hexes_stand : (k : Escaping) {l : List ℕ} → IsBytes l → escaped (byte_of k) (hexes l) ≡ hexes l
hexes_stand k b = digits_stand k (hexes_digits b)

-- ---- strings

-- a string is its escaped text and two quotes
pub length_quoted : (f : ℕ → List ℕ) (t : List ℕ) → length (quoted f t) ≡ length (escaped f t) + 2
unfolding quoted
length_quoted f t = omega (arith, length-append (escaped f t) (0x22 ∷ []))

-- the hex of bytes as a string
pub quoted_hexes : (k : Escaping) {l : List ℕ} → IsBytes l → quoted (byte_of k) (hexes l) ≡ 0x22 ∷ (hexes l ++ (0x22 ∷ []))
unfolding quoted
quoted_hexes k b = rw (hexes_stand k b)

pub length_quoted_hexes : (k : Escaping) {l : List ℕ} → IsBytes l → length (quoted (byte_of k) (hexes l)) ≡ 2 * length l + 2
length_quoted_hexes k {l} b = length_quoted (byte_of k) (hexes l) ∙ rw (hexes_stand k b, length_hexes l)

-- ---- arrays

-- an item, a comma where more follow, and those
pub commaed_more : (x : List ℕ) (l : List (List ℕ)) → commaed (x ∷ l) ≡ x ++ (comma (length l) ++ commaed l)
commaed_more x [] = sym (append-nil x)
commaed_more x (y ∷ l) = rw (lt-ltb 0 (suc (length l)) (omega arith))

pub commaed_next : (x : List ℕ) (l : List (List ℕ)) {n : ℕ} → length l ≡ n → commaed (x ∷ l) ≡ x ++ (comma n ++ commaed l)
commaed_next x l e = commaed_more x l ∙ ap (λ (n : ℕ). x ++ (comma n ++ commaed l)) e

-- an array is its items with their commas, and two brackets
pub length_array : (l : List (List ℕ)) → length (array l) ≡ length (commaed l) + 2
length_array l = omega (arith, length-append (commaed l) (0x5D ∷ []))
