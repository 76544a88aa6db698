-- `read_items` measures items. The invariant puts what is counted in front of the items that are still to be read, and
-- bounds what they take: each takes at most 2,560 bytes more in the strict form than here.
-- Each turn is one law of `Items`.
use Prim.Native.Nat.{ℕ, ◌+◌, ◌*◌, ◌-◌, ◌<◌, ◌≤◌}
use Rattle.scan.specs.Choice.{Answer, Read}
use Rattle.jsonfields.specs.inner.Size.{Tells}
use Rattle.jsonfields.proofs.Items.{Going}
use Rattle.jsonfields.proofs.read_items.Given as goal

abbrev pub invariant-loop-item : goal.invariant-loop-item
invariant-loop-item g l =
    ((tell : ℕ → Answer (Read ℕ)) → Tells tell (goal.F-post g l.item) → Going tell l.s (l.most - 1) l.fn.at l.i l.count l.len)
    × (l.count < l.most)
    × (l.len + l.fn.at ≤ l.i + 2_560 * l.count)

abbrev pub decreases-loop-item : goal.decreases-loop-item
decreases-loop-item g l = l.most - l.count
