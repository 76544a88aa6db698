-- `list_tags` lists what is asked for of all tags. The invariant: what is left to list is that of the tags left.
-- Each turn is one law; without room nothing is left to list.
use Prim.Native.Nat.{◌-◌}
use lib.ListN.{take, drop}
use Rattle.buffer.proofs.Laws.{Left}
use Rattle.elements.specs.Elements.{rows}
use Rattle.elements.specs.inner.Again.{all_again}
use Rattle.elements.proofs.list_tags.Given as goal

abbrev pub invariant-loop-tag : goal.invariant-loop-tag
invariant-loop-tag l =
    Left l.initial.out 0 (rows (take l.fn.room (drop l.fn.skip (all_again l.count 0 l.s l.fn.from)))) l.out l.listing.out (rows (take l.listing.room (drop l.listing.skip (all_again (l.count - l.tag) l.tag l.s l.listing.next))))
