-- What stands between quotes is the escaped form of the text that it stands for, and that text is UTF-8 where it is.
-- By induction on the quoted text; each step is a bare byte or a letter behind a backslash.
use Prim.Native.Nat.{ℕ, zero, suc, ◌<◌, ◌≤◌}
use mathlib.Core.Path.{◌≡◌, refl}
use mathlib.Core.Bool.{true}
use mathlib.Core.List.{List, [], ◌∷◌, ◌++◌}
use native.Mathlib.Omega.{arith}
use lib.ListN.{length, length-append}
use borrow.Author.Tests.{ne_eqb}
use Rattle.scan.specs.Bytes.{All, also}
use Rattle.utf8.specs.Utf8.{octet, Char, one, Utf8, char}
use Rattle.utf8.proofs.WidthLaws.{char_length}
use Rattle.utf8.proofs.Laws.{utf8_rest, utf8_char}
use Rattle.escape.specs.Escape.{backslashed, nson_byte, canonical_byte, escaped, Carried, newline, other}
use Rattle.escape.specs.inner.Controls.{nson_text}
use Rattle.escape.specs.inner.Back.{meaning, plain_from, plain}
use Rattle.escape.specs.inner.Quoted.{Quoted, none, bare, escape, NsonBare, nson_bare, NsonLetter, letter_n, letter_quote, letter_backslash, CanonicalBare, canonical_bare, CanonicalLetter, letter_nson, letter_r, letter_t, letter_b, letter_f}
use Rattle.escape.proofs.TextLaws.{High, Side, ascii, above, char_side}
use Rattle.escape.proofs.QuotedLaws.{nson_text_lem}

-- what a byte function makes of bare bytes, and of what the letters stand for
record Back (f : ℕ → List ℕ) (Bare Letter : ℕ → Type 0) : Type 0 where
  not_backslash : {b : ℕ} → Bare b → b ≡ 0x5C → ⊥
  stands : {b : ℕ} → Bare b → f b ≡ b ∷ []
  hides : {c : ℕ} → Letter c → f (meaning c) ≡ backslashed c

quoted_back : {f : ℕ → List ℕ} {Bare Letter : ℕ → Type 0} → Back f Bare Letter → {l : List ℕ} → Quoted Bare Letter l → escaped f (plain l) ≡ l
unfolding escaped plain plain_from
quoted_back k none = refl
quoted_back k (bare {b = b} p q) = rw (ne_eqb b 0x5C (k.not_backslash p), k.stands p, quoted_back k q)
quoted_back k (escape p q) = rw (k.hides p, quoted_back k q)

nson_back : Back nson_byte NsonBare NsonLetter
unfolding nson_byte meaning
nson_back = record { not_backslash = λ p. bare_not p; stands = λ p. bare_stands p; hides = λ p. letter_hides p }
  where
    bare_not : {b : ℕ} → NsonBare b → b ≡ 0x5C → ⊥
    bare_not (nson_bare h n m) = m

    bare_stands : {b : ℕ} → NsonBare b → nson_byte b ≡ b ∷ []
    bare_stands (nson_bare {b = b} h n m) = simp (ne_eqb b 0x0A (λ e. omega arith), ne_eqb b 0x22 n, ne_eqb b 0x5C m)

    letter_hides : {c : ℕ} → NsonLetter c → nson_byte (meaning c) ≡ backslashed c
    letter_hides letter_n = refl
    letter_hides letter_quote = refl
    letter_hides letter_backslash = refl

-- what stands between quotes in NSON is the escaped form of its text
pub nson_spelled : {l : List ℕ} → Quoted NsonBare NsonLetter l → escaped nson_byte (plain l) ≡ l
nson_spelled q = quoted_back nson_back q

canonical_back : Back canonical_byte CanonicalBare CanonicalLetter
unfolding canonical_byte nson_byte meaning
canonical_back = record { not_backslash = λ p. bare_not p; stands = λ p. bare_stands p; hides = λ p. letter_hides p }
  where
    bare_not : {b : ℕ} → CanonicalBare b → b ≡ 0x5C → ⊥
    bare_not (canonical_bare n m k r h g f) = k

    bare_stands : {b : ℕ} → CanonicalBare b → canonical_byte b ≡ b ∷ []
    bare_stands (canonical_bare {b = b} n m k r h g f) =
        simp (ne_eqb b 0x0A n, ne_eqb b 0x22 m, ne_eqb b 0x5C k, ne_eqb b 0x0D r, ne_eqb b 0x09 h, ne_eqb b 0x08 g, ne_eqb b 0x0C f)

    letter_hides : {c : ℕ} → CanonicalLetter c → canonical_byte (meaning c) ≡ backslashed c
    letter_hides (letter_nson letter_n) = refl
    letter_hides (letter_nson letter_quote) = refl
    letter_hides (letter_nson letter_backslash) = refl
    letter_hides letter_r = refl
    letter_hides letter_t = refl
    letter_hides letter_b = refl
    letter_hides letter_f = refl

-- what stands between quotes in the canonical text is the escaped form of its text
pub canonical_spelled : {l : List ℕ} → Quoted CanonicalBare CanonicalLetter l → escaped canonical_byte (plain l) ≡ l
canonical_spelled q = quoted_back canonical_back q

-- ---- NSON's alone, for its reader

letter_carried : {c : ℕ} → NsonLetter c → Carried (meaning c)
unfolding meaning
letter_carried letter_n = newline
letter_carried letter_quote = other {b = 0x22} (omega arith)
letter_carried letter_backslash = other {b = 0x5C} (omega arith)

plain_carried : {l : List ℕ} → Quoted NsonBare NsonLetter l → All Carried (plain l)
unfolding plain plain_from
plain_carried none = All.none
plain_carried (bare (nson_bare {b = b} h n m) q) = rw (ne_eqb b 0x5C m) (also (other h) (plain_carried q))
plain_carried (escape p q) = also (letter_carried p) (plain_carried q)

-- and NSON can carry that text
pub nson_carried : {l : List ℕ} → Quoted NsonBare NsonLetter l → nson_text (plain l) ≡ true
nson_carried {l} q = (nson_text_lem (plain l)).1 (plain_carried q)

letter_ascii : {c : ℕ} → NsonLetter c → (c < 0x80) × (meaning c < 0x80)
unfolding meaning
letter_ascii letter_n = (omega arith, omega arith)
letter_ascii letter_quote = (omega arith, omega arith)
letter_ascii letter_backslash = (omega arith, omega arith)

ascii_char : {b : ℕ} → b < 0x80 → Char (b ∷ [])
ascii_char {b} h = one (octet {b = b} (omega arith) (omega arith))

-- a byte that is no backslash is bare
open_bare : {b : ℕ} {l : List ℕ} → Quoted NsonBare NsonLetter (b ∷ l) → (b ≡ 0x5C → ⊥) → Quoted NsonBare NsonLetter l
open_bare (bare p q) n = q
open_bare (escape p q) n = absurd (n refl)

-- a character of no ASCII is passed whole
pass_high : {c : List ℕ} (l : List ℕ) → All High c → Quoted NsonBare NsonLetter (c ++ l) → (plain (c ++ l) ≡ c ++ plain l) × Quoted NsonBare NsonLetter l
unfolding plain plain_from
pass_high l All.none q = (refl, q)
pass_high l (also {b = b} h r) q =
    let no : b ≡ 0x5C → ⊥ = λ e. omega arith in
    let n = pass_high l r (open_bare q no) in
    (rw (ne_eqb b 0x5C no, n.0), n.1)

-- n is enough for the length
abbrev Reads : ℕ → Type 0
Reads n = (l : List ℕ) → length l ≤ n → Quoted NsonBare NsonLetter l → Utf8 l → Utf8 (plain l)

plain_side : (n : ℕ) → Reads n → {c : List ℕ} (l : List ℕ) → Side c → Char c → length (c ++ l) ≤ suc n → Quoted NsonBare NsonLetter (c ++ l) → Utf8 l → Utf8 (plain (c ++ l))
unfolding plain plain_from
plain_side n k l (ascii {b = b} h) g m (bare (nson_bare x y z) q) u = rw (ne_eqb b 0x5C z) (char (ascii_char h) (k l (omega arith) q u))
plain_side n k l (ascii h) g m (escape {c = c} {l = rest} p q) u =
    let a = letter_ascii p in
    char (ascii_char a.1) (k rest (omega arith) q (utf8_rest (utf8_char (ascii_char a.0)) u))
plain_side n k l (above {c = c} h) g m q u =
    let p = pass_high l h q in
    rw p.0 (char g (k l (omega (arith, length-append c l, (char_length g).0)) p.1 u))

reads : (n : ℕ) {l : List ℕ} → length l ≤ n → Quoted NsonBare NsonLetter l → Utf8 l → Utf8 (plain l)
unfolding plain plain_from
reads zero h q Utf8.none = Utf8.none
reads zero h q (char {c = c} {l = l} g u) = absurd (omega (arith, length-append c l, (char_length g).0))
reads (suc n) h q Utf8.none = Utf8.none
reads (suc n) h q (char {l = l} g u) = plain_side n (λ l h q u. reads n h q u) l (char_side g) g h q u

-- what NSON has between quotes stands for UTF-8 where it is UTF-8
pub plain_utf8 : {l : List ℕ} → Quoted NsonBare NsonLetter l → Utf8 l → Utf8 (plain l)
plain_utf8 {l} q u = reads (length l) (omega arith) q u
