-- `put_text_pointers` writes the pointers to texts as it goes over them again. The invariant: what is left to write is
-- the pointers to the texts left, from the offset where they stand; these end at the offset, and are read to the place,
-- where all are.
use Prim.Native.Nat.{◌+◌, ◌-◌}
use mathlib.Core.Path.{◌≡◌}
use lib.ListN.{length}
use Rattle.buffer.proofs.Laws.{Left}
use Rattle.notepack.specs.inner.Again.{texts_again, texts_end}
use Rattle.pointer.specs.Written.{padded_texts, text_pointers}
use Rattle.pointwrite.proofs.put_text_pointers.Given as goal

abbrev pub invariant-loop : goal.invariant-loop
invariant-loop l =
    let f = l.fn.from in
    Left l.initial.out f.out (text_pointers f.offset (texts_again l.count l.packed.bytes.now f.next)) l.out l.reached.out (text_pointers l.reached.offset (texts_again (l.count - l.counter) l.packed.bytes.now l.reached.next))
    × (l.reached.offset + length (padded_texts (texts_again (l.count - l.counter) l.packed.bytes.now l.reached.next)) ≡ f.offset + length (padded_texts (texts_again l.count l.packed.bytes.now f.next)))
    × (texts_end l.count l.packed.bytes.now f.next ≡ texts_end (l.count - l.counter) l.packed.bytes.now l.reached.next)
