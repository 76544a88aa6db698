-- Escapes at a place, and the text that a spelled string stands for: decisions. Laws tie them to the grammar: what
-- `escape_at` finds at a backslash is a character of the grammar (`EscapeLaws.escape_at_lem`), and each of the
-- grammar's escapes is found (`escape_letter_lem`, `escape_unicode`, `escape_pair`); of what the grammar spells
-- `unescape` gives the text (`Meaning.unescape_chars`). Assumes nothing.
use Rattle.std.specs.Prelude.{ℕ, zero, suc, ◌+◌, ◌*◌, ◌-◌, List, [], ◌∷◌, ◌++◌, ltb, eqb}
use Rattle.scan.specs.Choice.{pick}
use Rattle.scan.specs.Place.{byte_at, within}
use Rattle.utf8.specs.Encode.{encode}
use Rattle.hexdigits.specs.Hex.{value_of}
use Rattle.jsontext.specs.declared.Escape.{Escape}
use Rattle.jsontext.specs.Grammar.{paired}

-- the value of a hex digit in either case; 16 where the byte is none
unfoldable pub hex_value : ℕ → ℕ
hex_value b = pick (within 0x41 0x46 b) (b - 0x37) (value_of b)

-- the number that four hex digits say; 65,536 where they are not four
unfoldable pub unit_of : (a b c d : ℕ) → ℕ
unit_of a b c d =
    pick (ltb (hex_value a) 16)
    (pick (ltb (hex_value b) 16)
    (pick (ltb (hex_value c) 16)
    (pick (ltb (hex_value d) 16) (((hex_value a * 16 + hex_value b) * 16 + hex_value c) * 16 + hex_value d) 0x10000) 0x10000) 0x10000) 0x10000

-- the number that \uXXXX at a place says; 65,536 where none stands there
unfoldable pub unit_at : List ℕ → ℕ → ℕ
unit_at s at =
    pick (eqb (byte_at s at) 0x5C)
    (pick (eqb (byte_at s (at + 1)) 0x75) (unit_of (byte_at s (at + 2)) (byte_at s (at + 3)) (byte_at s (at + 4)) (byte_at s (at + 5))) 0x10000) 0x10000

-- An escape: how many bytes it takes, and the character that it stands for. No escape takes 0 bytes.
abbrev pub escape : ℕ → ℕ → Escape
escape w n = record { width = w; scalar = n }

abbrev pub no_escape : Escape
no_escape = escape 0 0

-- the character of a letter behind the backslash; 0 where it is none of the eight
unfoldable pub unescaped_letter : ℕ → ℕ
unescaped_letter c =
    pick (eqb c 0x22) 0x22
    (pick (eqb c 0x5C) 0x5C
    (pick (eqb c 0x2F) 0x2F
    (pick (eqb c 0x62) 0x08 (pick (eqb c 0x66) 0x0C (pick (eqb c 0x6E) 0x0A (pick (eqb c 0x72) 0x0D (pick (eqb c 0x74) 0x09 0)))))))

unfoldable pub letter_escape : ℕ → Escape
letter_escape b = pick (eqb b 0) no_escape (escape 2 b)

-- a high surrogate and the unit behind it: a pair, or nothing
unfoldable pub pair_of : ℕ → ℕ → Escape
pair_of u v = pick (ltb v 0xDC00) no_escape (pick (ltb v 0xE000) (escape 12 (paired u v)) no_escape)

-- the escape at `at` whose four digits say u
unfoldable pub unicode_at : List ℕ → ℕ → ℕ → Escape
unicode_at s at u =
    pick (ltb u 0xD800) (escape 6 u) (pick (ltb u 0xDC00) (pair_of u (unit_at s (at + 6))) (pick (ltb u 0xE000) no_escape (pick (ltb u 0x10000) (escape 6 u) no_escape)))

-- the escape whose backslash stands at `at`
unfoldable pub escape_at : List ℕ → ℕ → Escape
escape_at s at =
    pick (eqb (byte_at s (at + 1)) 0x75) (unicode_at s at (unit_at s at)) (letter_escape (unescaped_letter (byte_at s (at + 1))))

-- a backslash that begins no escape stands for itself
unfoldable pub or_itself : Escape → Escape
or_itself e = pick (eqb e.width 0) (escape 1 0x5C) e

-- the text of the bytes of a spelled string; `skip` bytes of the escape at hand are still to pass
unfoldable pub unescaped : ℕ → List ℕ → List ℕ
unescaped zero [] = []
unescaped (suc k) [] = []
unescaped (suc k) (b ∷ l) = unescaped k l
unescaped zero (b ∷ l) =
    let e = or_itself (escape_at (b ∷ l) 0) in pick (eqb b 0x5C) (encode e.scalar ++ unescaped (e.width - 1) l) (b ∷ unescaped zero l)

-- the text that a spelled string stands for: what the grammar says of it (`proofs/Meaning`), and a backslash that
-- begins no escape for itself
unfoldable pub unescape : List ℕ → List ℕ
unescape l = unescaped 0 l
