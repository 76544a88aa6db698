-- NSON's escaped texts are strings of RFC 8259's grammar.
-- Each byte is a character that stands for itself, or an escape that the grammar has.
use Prim.Native.Nat.{ℕ}
use mathlib.Core.Path.{◌≡◌}
use mathlib.Core.Bool.{true}
use mathlib.Core.List.{List, [], ◌∷◌}
use lib.Dec.{eqb}
use borrow.Author.Tests.{eqb-true, eqb-false}
use Rattle.scan.specs.Bytes.{All}
use Rattle.scan.proofs.Step.{pick_by}
use Rattle.scan.proofs.AllLaws.{all_map}
use Rattle.utf8.specs.Utf8 as utf8
use Rattle.escape.specs.Escape.{Carried, newline, other, nson_byte, escaped}
use Rattle.escape.proofs.TextLaws.{escaped_none, escaped_more}
use Rattle.jsontext.specs.Grammar as json
use Rattle.jsontext.proofs.Meaning.{Written, by_itself, by_letter, escaped_chars}

letter_of : (b k c : ℕ) → json.Letter c k → eqb b k ≡ true → Written b (0x5C ∷ c ∷ [])
letter_of b k c l t = rw (eqb-true b k t) (by_letter l)

-- a byte that NSON can carry is written as the grammar has it
byte_written : (b : ℕ) → Carried b → Written b (nson_byte b)
unfolding nson_byte
byte_written b newline = by_letter json.line_feed
byte_written b (other h) =
    pick_by (Written b) (eqb b 0x0A) (letter_of b 0x0A 0x6E json.line_feed)
    (λ n.
    pick_by (Written b) (eqb b 0x22) (letter_of b 0x22 0x22 json.quotation_mark)
    (λ q. pick_by (Written b) (eqb b 0x5C) (letter_of b 0x5C 0x5C json.reverse_solidus) (λ s. by_itself b h (eqb-false b 0x22 q) (eqb-false b 0x5C s))))

-- a text that NSON can carry, escaped, is a string of the grammar that stands for the text
pub nson_chars : {t : List ℕ} → utf8.Utf8 t → All Carried t → json.Chars (escaped nson_byte t) t
nson_chars u c = escaped_chars nson_byte (escaped nson_byte) (escaped_none nson_byte) (escaped_more nson_byte) u (all_map byte_written c)
