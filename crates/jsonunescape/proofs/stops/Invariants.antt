-- `stops` adds up what the bytes of a block add. The invariant: the sum and what is left make the whole.
-- A byte adds at most 3, so the sum is at most 96 and fits a byte.
use Rattle.std.proofs.Common.{◌≡◌, ◌+◌, ◌*◌, ◌≤◌, drop}
use Rattle.scan.specs.inner.Blocks.{sum_of}
use Rattle.jsonunescape.specs.inner.Run.{stop_of}
use Rattle.jsonunescape.proofs.stops.Given as goal

abbrev pub invariant-loop-b : goal.invariant-loop-b
invariant-loop-b l = (l.n ≤ 3 * l.b-index) × (l.n + sum_of stop_of (drop l.b-index l.block) ≡ sum_of stop_of l.block)
