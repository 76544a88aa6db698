-- `put_texts` writes the texts, each with its filling, as it goes over them again. The invariant: what is left to write
-- is that of the texts left. Each turn is one law.
use Prim.Native.Nat.{◌-◌}
use Rattle.buffer.proofs.Laws.{Left}
use Rattle.notepack.specs.inner.Again.{texts_again}
use Rattle.pointer.specs.Written.{padded_texts}
use Rattle.pointwrite.proofs.put_texts.Given as goal

abbrev pub invariant-loop : goal.invariant-loop
invariant-loop l = Left l.initial.out l.at (padded_texts (texts_again l.count l.packed.bytes.now l.from)) l.out l.o (padded_texts (texts_again (l.count - l.counter) l.packed.bytes.now l.i))
