-- `mix_hex` takes the hex of bytes into a print, two digits for each. The invariant is one equation: the print from the
-- start is that from here.
use Rattle.std.proofs.Common.{◌≡◌, drop}
use Rattle.hexdigits.specs.Hex.{hexes}
use Rattle.tableread.specs.inner.Prints.{folded}
use Rattle.tableread.proofs.mix_hex.Given as goal

abbrev pub invariant-loop-b : goal.invariant-loop-b
invariant-loop-b l = folded l.h (hexes l.s) ≡ folded l.r (hexes (drop l.b-index l.s))
