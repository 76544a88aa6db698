-- `put_items` writes the elements one after the other. The invariant: what is left to write is the text of the items
-- left, and they end where all end.
-- A turn is one law of `Writing`; a size is at most 65,535, so no place passes a word.
use Prim.Native.Nat.{◌+◌, ◌*◌, ◌-◌, ◌≤◌}
use mathlib.Core.Path.{◌≡◌}
use Rattle.buffer.proofs.Laws.{Left}
use Rattle.nsonread.specs.inner.Copy.{items_text, items_end}
use Rattle.nsonread.proofs.put_items.Given as goal

abbrev pub invariant-loop-i : goal.invariant-loop-i
invariant-loop-i l = record {
  room : l.place + 65538 * (l.counts.number - l.i) ≤ l.from + 65538 * l.counts.number;
  left : Left l.initial.out l.at (items_text l.counts.number l.s l.counts.at l.from) l.out l.o (items_text (l.counts.number - l.i) l.s (l.counts.at + 4 * l.i) l.place);
  ends : items_end l.counts.number l.s l.counts.at l.from ≡ items_end (l.counts.number - l.i) l.s (l.counts.at + 4 * l.i) l.place;
}
