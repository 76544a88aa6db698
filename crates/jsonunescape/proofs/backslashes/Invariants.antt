-- `backslashes` adds up the backslashes of a block. The invariant: the sum and what is left make the whole.
-- A byte adds at most 1, so the sum is at most the index, and fits a byte.
use Rattle.std.proofs.Common.{◌≡◌, ◌+◌, ◌≤◌, drop}
use Rattle.scan.specs.inner.Blocks.{sum_of}
use Rattle.jsonunescape.specs.inner.Run.{is_slash}
use Rattle.jsonunescape.proofs.backslashes.Given as goal

abbrev pub invariant-loop-b : goal.invariant-loop-b
invariant-loop-b l = (l.n ≤ l.b-index) × (l.n + sum_of is_slash (drop l.b-index l.block) ≡ sum_of is_slash l.block)
