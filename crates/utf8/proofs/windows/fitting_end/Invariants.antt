-- `fitting_end` goes block after block while none has a misfit. The invariant: all up to three bytes on from here fit.
-- A block is one law, `fitting_block`; where one has a misfit it stops before the block.
use Prim.Native.Nat.{◌+◌, ◌-◌, ◌≤◌}
use Rattle.utf8.specs.inner.Windows.{Fitting, padded}
use Rattle.utf8.proofs.windows.fitting_end.Given as goal

abbrev pub invariant-loop-i : goal.invariant-loop-i
invariant-loop-i l = (l.i ≤ l.last) × Fitting (padded l.s) 0 (l.i + 3)

abbrev pub decreases-loop-i : goal.decreases-loop-i
decreases-loop-i l = l.last - l.i
