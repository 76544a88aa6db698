-- `find` finds the slot with a name. The invariant is one equation: what is found from the start is that from here.
use Rattle.std.proofs.Common.{◌≡◌, drop}
use Rattle.tableread.specs.inner.Known.{find_from}
use Rattle.tableread.proofs.find.Given as goal

abbrev pub invariant-loop-i : goal.invariant-loop-i
invariant-loop-i l = find_from l.cells l.s l.key l.print 0 l.ks ≡ find_from l.cells l.s l.key l.print l.i (drop l.i l.ks)
