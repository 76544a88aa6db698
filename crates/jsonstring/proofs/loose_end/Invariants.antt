-- `loose_end` passes bare bytes and escapes. The invariant of both loops: nothing else stands from the start to here.
-- A block adds its stretch by `then`, a turn of the inner loop adds one byte or one escape.
use Prim.Native.Nat.{◌-◌, ◌≤◌}
use lib.ListN.{length}
use Rattle.jsonstring.specs.inner.Loose.{LooseTo}
use Rattle.jsonstring.proofs.loose_end.Given as goal

abbrev pub invariant-loop-i-2 : goal.invariant-loop-i-2
invariant-loop-i-2 l = (l.end ≤ length l.s) × LooseTo l.s l.from l.i

abbrev pub decreases-loop-i-2 : goal.decreases-loop-i-2
decreases-loop-i-2 l = length l.s - l.i

abbrev pub invariant-loop-i : goal.invariant-loop-i
invariant-loop-i l = LooseTo l.s l.from l.i

abbrev pub decreases-loop-i : goal.decreases-loop-i
decreases-loop-i l = length l.s - l.i
