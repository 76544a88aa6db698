-- `slashes` adds up the backslashes block by block. The invariant: the sum and what the rest has make the whole, and the
-- sum is no more than was passed.
use Rattle.std.proofs.Common.{◌≡◌, ◌+◌, ◌≤◌, length}
use Rattle.scan.specs.inner.Blocks.{sum_of}
use Rattle.jsonunescape.specs.inner.Run.{is_slash}
use Rattle.jsonunescape.proofs.slashes.Given as goal

abbrev pub invariant-loop-block : goal.invariant-loop-block
invariant-loop-block l = record {
  sum : l.n + sum_of is_slash l.left ≡ sum_of is_slash l.t;
  few : l.n + length l.left ≤ length l.t;
}

abbrev pub decreases-loop-block : goal.decreases-loop-block
decreases-loop-block l = length l.left
