-- `lowest_bad` finds the lowest bad slot. The invariant is one equation: the lowest bad slot from the start is that
-- from here.
use Rattle.std.proofs.Common.{◌≡◌, drop}
use Rattle.tableread.specs.inner.Known.{lowest_from}
use Rattle.tableread.proofs.lowest_bad.Given as goal

abbrev pub invariant-loop-i : goal.invariant-loop-i
invariant-loop-i l = lowest_from l.cells 0 l.ks ≡ lowest_from l.cells l.i (drop l.i l.ks)
