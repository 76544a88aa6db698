-- An escaped text, with JSON's escapes undone, is the text.
-- By the escape of each byte, which is the byte itself or a letter that RFC 8259 has for it.
use Prim.Native.Nat.{ℕ}
use mathlib.Core.Path.{◌≡◌}
use mathlib.Core.Bool.{true}
use mathlib.Core.List.{List, [], ◌∷◌}
use lib.Dec.{eqb}
use borrow.Author.Tests.{eqb-true, eqb-false}
use Rattle.scan.proofs.Step.{pick_by}
use Rattle.escape.specs.Escape.{canonical_byte, nson_byte, escaped}
use Rattle.escape.proofs.TextLaws.{escaped_none, escaped_more}
use Rattle.jsontext.specs.Grammar as json
use Rattle.jsontext.specs.inner.Escape.{unescape}
use Rattle.jsontext.proofs.Meaning.{Spelling, itself, lettered, unescape_back}

letter_of : (b k c : ℕ) → json.Letter c k → eqb b k ≡ true → Spelling b (0x5C ∷ c ∷ [])
letter_of b k c l t = rw (eqb-true b k t) (lettered l)

spelling : (b : ℕ) → Spelling b (canonical_byte b)
unfolding canonical_byte nson_byte
spelling b =
    pick_by (Spelling b) (eqb b 0x0D) (letter_of b 0x0D 0x72 json.carriage_return)
    (λ r.
    pick_by (Spelling b) (eqb b 0x09) (letter_of b 0x09 0x74 json.tab)
    (λ t.
    pick_by (Spelling b) (eqb b 0x08) (letter_of b 0x08 0x62 json.backspace)
    (λ s.
    pick_by (Spelling b) (eqb b 0x0C) (letter_of b 0x0C 0x66 json.form_feed)
    (λ f.
    pick_by (Spelling b) (eqb b 0x0A) (letter_of b 0x0A 0x6E json.line_feed)
    (λ n.
    pick_by (Spelling b) (eqb b 0x22) (letter_of b 0x22 0x22 json.quotation_mark)
    (λ q. pick_by (Spelling b) (eqb b 0x5C) (letter_of b 0x5C 0x5C json.reverse_solidus) (λ m. itself (eqb-false b 0x5C m))))))))

-- an escaped text, with JSON's escapes undone, is the text
pub canonical_unescaped : (t : List ℕ) → unescape (escaped canonical_byte t) ≡ t
canonical_unescaped t =
    unescape_back canonical_byte (escaped canonical_byte) spelling (escaped_none canonical_byte) (escaped_more canonical_byte) t
