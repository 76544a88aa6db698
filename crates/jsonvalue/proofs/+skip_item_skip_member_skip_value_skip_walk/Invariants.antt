-- A value, the walk of an array or an object, and its items call one another. The measure is 4 times the depth that is
-- left, and so much more that each call falls.
-- Each return names what happened on the way; the turns of the walk are the laws of `walks`, and an item takes a byte
-- or more, so that the input falls.
use Prim.Native.Nat.{◌+◌, ◌*◌, ◌-◌, ◌≤◌}
use lib.ListN.{length}
use Rattle.jsonvalue.proofs.Walk.{InWalk}
use Rattle.jsonvalue.proofs.+skip_item_skip_member_skip_value_skip_walk.Given as goal

abbrev pub decreases-skip_item : goal.decreases-skip_item
decreases-skip_item l = 4 * l.depth + 3

abbrev pub decreases-skip_member : goal.decreases-skip_member
decreases-skip_member l = 4 * l.depth + 2

abbrev pub decreases-skip_value : goal.decreases-skip_value
decreases-skip_value l = 4 * l.depth + 1

abbrev pub decreases-skip_walk : goal.decreases-skip_walk
decreases-skip_walk l = 4 * l.depth

abbrev pub invariant-skip_walk-loop-next : goal.invariant-skip_walk-loop-next
invariant-skip_walk-loop-next l = InWalk l.s l.depth l.close l.at l.i × (1 ≤ l.depth)

abbrev pub decreases-skip_walk-loop-next : goal.decreases-skip_walk-loop-next
decreases-skip_walk-loop-next l = length l.s - l.i
