-- `count_outside` counts the bytes of a block that are outside the alphabet. The invariant: the count and those that
-- are left make the whole.
-- A byte adds 0 or 1, so the sum is at most the place and fits a byte.
use Rattle.std.proofs.Common.{◌+◌, ◌≤◌, ◌≡◌, drop}
use Rattle.scan.specs.inner.Blocks.{sum_of}
use Rattle.base64text.specs.inner.Tables.{is_outside}
use Rattle.base64text.proofs.count_outside.Given as goal

abbrev pub invariant-loop-b : goal.invariant-loop-b
invariant-loop-b l = (l.n ≤ l.b-index) × (l.n + sum_of is_outside (drop l.b-index l.block) ≡ sum_of is_outside l.block)
