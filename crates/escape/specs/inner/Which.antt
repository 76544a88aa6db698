-- An escaping by its name in the code: what a byte becomes, and how many bytes at most. Assumes nothing.
use Rattle.std.specs.Prelude.{ℕ, List}
use Rattle.escape.specs.declared.Escaping.{Escaping}
use Rattle.escape.specs.declared.Escaping.TheVariants.{Canonical, Nson}
use Rattle.escape.specs.Escape.{nson_byte, canonical_byte}

-- what a byte becomes, by which escaping it is
abbrev pub byte_of : Escaping → ℕ → List ℕ
byte_of Canonical = canonical_byte
byte_of Nson = nson_byte

-- the most bytes that one becomes
abbrev pub growth : Escaping → ℕ
growth Canonical = 2
growth Nson = 2
