-- `mix_bytes` takes bytes into a print. The invariant is one equation: the print from the start is that from here.
use Rattle.std.proofs.Common.{◌≡◌, drop}
use Rattle.tableread.specs.inner.Prints.{folded}
use Rattle.tableread.proofs.mix_bytes.Given as goal

abbrev pub invariant-loop-b : goal.invariant-loop-b
invariant-loop-b l = folded l.h l.s ≡ folded l.r (drop l.b-index l.s)
