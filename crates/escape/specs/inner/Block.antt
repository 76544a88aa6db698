-- Inner definitions: which bytes become two, and the letter of each, by the tests that the private functions make.
-- Assumes nothing.
use Rattle.std.specs.Prelude.{ℕ, Bool, true, false, not, List, eqb}
use Rattle.scan.specs.Choice.{pick}
use Rattle.scan.specs.Place.{within}
use Rattle.scan.specs.inner.Blocks.{before_stop}
use Rattle.escape.specs.declared.Escaping.{Escaping}
use Rattle.escape.specs.declared.Escaping.TheVariants.{Canonical, Nson}

-- of the bytes other than the quote and the backslash, whether the byte becomes two
abbrev pub is_escaped_else : Escaping → ℕ → Bool
is_escaped_else Canonical b = pick (within 0x08 0x0D b) (not (eqb b 0x0B)) false
is_escaped_else Nson b = eqb b 0x0A

-- whether the byte becomes two
unfoldable pub is_escaped : Escaping → ℕ → Bool
is_escaped k b = pick (eqb b 0x22) true (pick (eqb b 0x5C) true (is_escaped_else k b))

-- the letter behind the backslash, of a byte that becomes two
unfoldable pub escape_letter : ℕ → ℕ
escape_letter b =
    pick (eqb b 0x0A) 0x6E
    (pick (eqb b 0x0D) 0x72 (pick (eqb b 0x09) 0x74 (pick (eqb b 0x08) 0x62 (pick (eqb b 0x0C) 0x66 b))))

-- how many bytes stand before the first that becomes two
abbrev pub run_of : Escaping → List ℕ → ℕ
run_of k = before_stop (is_escaped k)
