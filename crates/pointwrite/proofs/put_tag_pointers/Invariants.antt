-- `put_tag_pointers` writes the pointers to the tags' tables as it goes over the tags again. The invariant: what is
-- left to write is the pointers of the tags left, from the offset where they stand; and they end where all end.
use Prim.Native.Nat.{◌+◌, ◌-◌}
use mathlib.Core.Path.{◌≡◌}
use Rattle.buffer.proofs.Laws.{Left}
use Rattle.notepack.specs.inner.Again.{tags_again}
use Rattle.pointer.specs.Written.{tag_pointers}
use Rattle.pointwrite.specs.inner.Pieces.{tags_size}
use Rattle.pointwrite.proofs.put_tag_pointers.Given as goal

abbrev pub invariant-loop : goal.invariant-loop
invariant-loop l =
    let f = l.fn.from in
    Left l.initial.out f.out (tag_pointers f.offset (tags_again l.packed.head.tag_count l.packed.bytes.now f.next)) l.out l.reached.out (tag_pointers l.reached.offset (tags_again (l.packed.head.tag_count - l.counter) l.packed.bytes.now l.reached.next))
    × (l.reached.offset + tags_size (tags_again (l.packed.head.tag_count - l.counter) l.packed.bytes.now l.reached.next) ≡ f.offset + tags_size (tags_again l.packed.head.tag_count l.packed.bytes.now f.next))
