-- `bare_run` keeps the least place of a byte that becomes two. The invariant: the run is that place, or ends further
-- on.
-- Each turn is `stop_more`; at the end the run is the least place, or the whole block.
use Rattle.std.proofs.Common.{◌≡◌, ◌+◌, ◌≤◌, length, drop, min}
use Rattle.escape.specs.inner.Block.{run_of}
use Rattle.escape.proofs.bare_run.Given as goal

abbrev pub invariant-loop-i : goal.invariant-loop-i
invariant-loop-i l = (l.m ≤ length l.block) × (run_of l.k l.block ≡ min l.m (l.i + run_of l.k (drop l.i l.block)))
