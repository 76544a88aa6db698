-- A counted text without a fault is no longer than its bytes, and as long only where none of them is escaped.
-- Byte after byte: a bare byte is itself, an escape is one byte for two.
use Prim.Native.Nat.{ℕ, ◌+◌, ◌≤◌}
use mathlib.Core.Path.{◌≡◌, sym, ap, ◌∙◌}
use mathlib.Core.List.{List, ◌∷◌}
use native.Mathlib.Omega.{arith}
use lib.ListN.{length, take, drop}
use lib.Dec.{eqb}
use borrow.Author.Tests.{eqb-true}
use Rattle.scan.specs.Choice.{pick, shown, refused, read}
use Rattle.scan.proofs.Many.{pick_shown}
use Rattle.escape.specs.inner.Quoted.{Quoted, none, bare, escape, NsonBare, nson_bare, NsonLetter, letter_n, letter_quote, letter_backslash}
use Rattle.jsontext.specs.Grammar as json
use Rattle.jsontext.specs.inner.Escape.{unescape}
use Rattle.jsontext.proofs.Meaning.{unescape_none, unescape_byte, unescape_char}
use Rattle.nsonstring.specs.Counted.{fault_in}
use Rattle.nsonstring.proofs.Faults.{no_fault}
use Rattle.nson.specs.Read.{part_at, text_at}
use Rattle.nsoncounts.specs.inner.Counted.{text_size_at}
use Rattle.nsoncounts.proofs.Laws.{part_fits, part_most, reason_some, text_shown}

record Short (l : List ℕ) : Type 0 where
  most : length (unescape l) ≤ length l
  same : length (unescape l) ≡ length l → unescape l ≡ l

escape_short : {c d : ℕ} {l : List ℕ} → unescape (0x5C ∷ c ∷ l) ≡ d ∷ unescape l → Short l → Short (0x5C ∷ c ∷ l)
escape_short e x = let m = ap length e in record { most = omega (arith, m, x.most); same = λ k. absurd (omega (arith, m, k, x.most)) }

quoted_short : {l : List ℕ} → Quoted NsonBare NsonLetter l → Short l
quoted_short none = let m = ap length unescape_none in record { most = omega (arith, m); same = λ k. unescape_none }
quoted_short (bare {b = b} {l = l} (nson_bare h q n) r) =
    let e = unescape_byte n l in
    let m = ap length e in
    let x = quoted_short r in
    record { most = omega (arith, m, x.most); same = λ k. e ∙ ap (λ (t : List ℕ). b ∷ t) (x.same (omega (arith, m, k))) }
quoted_short (escape {l = l} letter_n r) = escape_short (unescape_char (json.letter json.line_feed) l) (quoted_short r)
quoted_short (escape {l = l} letter_quote r) = escape_short (unescape_char (json.letter json.quotation_mark) l) (quoted_short r)
quoted_short (escape {l = l} letter_backslash r) = escape_short (unescape_char (json.letter json.reverse_solidus) l) (quoted_short r)

faultless_short : (l : List ℕ) → fault_in l ≡ 0 → Short l
faultless_short l z = quoted_short (no_fault l z).quoted

-- the text of a part is no longer than the part is to be
pub text_most : (n : ℕ) (s : List ℕ) (at : ℕ) {l : List ℕ} {m : ℕ} → l ≡ take n (drop at s) → 0 ≡ fault_in l → m ≡ length (unescape l) → m ≤ n
text_most n s at {l} e z q =
    let k = part_most n s at e in
    omega (arith, q, (faultless_short l (sym z)).most)

pub ruleset text_steps = (text_most, part_fits, reason_some)

-- a counted text of as many bytes as were counted is those bytes
pub no_escape_lem : (n : ℕ) (s : List ℕ) (at : ℕ) {m p : ℕ} → text_size_at n s at ≡ read m p → m ≡ n → unescape (part_at n s at) ≡ part_at n s at
unfolding text_at
no_escape_lem n s at {m} {p} e q =
    let l = part_at n s at in
    let x = text_shown n s at e in
    let a = pick_shown (eqb (fault_in l) 0) (pick (eqb (length l) n) (shown (at + n)) (refused 13 at)) (fault_in l) at p x.0 in
    let b = pick_shown (eqb (length l) n) (shown (at + n)) 13 at p a.1 in
    (faultless_short l (eqb-true (fault_in l) 0 a.0)).same (sym x.1 ∙ q ∙ sym (eqb-true (length l) n b.0))
