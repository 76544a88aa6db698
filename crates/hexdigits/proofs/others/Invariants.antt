-- `others` counts the bytes of a block that are no digits. The invariant: the count and those that are left make the
-- whole.
-- A byte adds 0 or 1, so the sum is at most the place and fits a byte.
use Rattle.std.proofs.Common.{◌+◌, ◌≤◌, ◌≡◌, drop}
use Rattle.scan.specs.inner.Blocks.{sum_of}
use Rattle.hexdigits.specs.inner.Block.{is_other}
use Rattle.hexdigits.proofs.others.Given as goal

abbrev pub invariant-loop-b : goal.invariant-loop-b
invariant-loop-b l = (l.n ≤ l.b-index) × (l.n + sum_of is_other (drop l.b-index l.block) ≡ sum_of is_other l.block)
