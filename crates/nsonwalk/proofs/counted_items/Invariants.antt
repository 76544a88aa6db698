-- `counted_items` sums up the lengths of the items' strict elements. The invariant is one equation: all items are those
-- that are left, with what was summed up.
-- A turn is one law of `Turns`. An element is at most `element_most` bytes long, so nothing passes a word.
use Prim.Native.Nat.{◌+◌, ◌*◌, ◌-◌, ◌≤◌}
use mathlib.Core.Path.{◌≡◌}
use mathlib.Core.Bool.{false}
use Rattle.std.proofs.Common.{nat_lt}
use Rattle.nsonwalk.specs.inner.Walk.{element_most}
use Rattle.nsonwalk.proofs.Turns.{items_left}
use Rattle.nsonwalk.proofs.counted_items.Given as goal

abbrev pub invariant-loop-i : goal.invariant-loop-i
invariant-loop-i l = record {
  room : l.total + element_most * (l.counts.number - l.i) ≤ element_most * l.counts.number;
  left : items_left l.s 0 false l.counts.number l.counts.at l.initial.next ≡ items_left l.s l.total (nat_lt 0 l.i) (l.counts.number - l.i) (l.counts.at + 4 * l.i) l.next;
}
