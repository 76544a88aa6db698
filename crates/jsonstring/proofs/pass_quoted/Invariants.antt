-- `pass_quoted` passes blocks without a clash. The invariant: bare bytes and escapes stand up to here, or up to the
-- backslash before here.
-- A block is one use of `quoting_block`: it is `take 33 (drop (i - 1) s)`.
use Prim.Native.Nat.{◌-◌, ◌≤◌}
use lib.ListN.{length}
use Rattle.jsonstring.proofs.ClashLaws.{Quoting}
use Rattle.jsonstring.proofs.pass_quoted.Given as goal

abbrev pub invariant-loop-block : goal.invariant-loop-block
invariant-loop-block l = (1 ≤ l.i) × (l.i ≤ length l.s) × Quoting l.s l.at l.i

abbrev pub decreases-loop-block : goal.decreases-loop-block
decreases-loop-block l = length l.s - l.i
