-- `put_tags` writes the tags as it goes over them again. The invariant: what is left to write is the tags left, from
-- the offset where they stand; and they end at the offset where all end.
use Prim.Native.Nat.{◌+◌, ◌-◌}
use mathlib.Core.Path.{◌≡◌}
use Rattle.buffer.proofs.Laws.{Left}
use Rattle.notepack.specs.inner.Again.{tags_again}
use Rattle.pointer.specs.Written.{tag_pieces}
use Rattle.pointwrite.specs.inner.Pieces.{tags_size}
use Rattle.pointwrite.proofs.put_tags.Given as goal

abbrev pub invariant-loop : goal.invariant-loop
invariant-loop l =
    let f = l.fn.from in
    Left l.initial.out f.out (tag_pieces f.offset (tags_again l.packed.head.tag_count l.packed.bytes.now f.next)) l.out l.reached.out (tag_pieces l.reached.offset (tags_again (l.packed.head.tag_count - l.counter) l.packed.bytes.now l.reached.next))
    × (l.reached.offset + tags_size (tags_again (l.packed.head.tag_count - l.counter) l.packed.bytes.now l.reached.next) ≡ f.offset + tags_size (tags_again l.packed.head.tag_count l.packed.bytes.now f.next))
