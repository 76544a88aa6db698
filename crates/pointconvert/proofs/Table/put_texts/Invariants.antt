-- `put_texts` writes the strict elements of the texts that the table names. The invariant: what is left to write is
-- that of the texts left. Each turn is one law.
use Prim.Native.Nat.{◌+◌, ◌*◌, ◌-◌}
use Rattle.buffer.proofs.Laws.{Left}
use Rattle.notepack.specs.Strict.{pack_elements}
use Rattle.pointer.specs.inner.Again.{texts_from}
use Rattle.pointconvert.proofs.Table.put_texts.Given as goal

abbrev pub invariant-loop-i : goal.invariant-loop-i
invariant-loop-i l = Left l.initial.out l.initial.o (pack_elements (texts_from l.self.n l.self.s.now l.self.at)) l.out l.o (pack_elements (texts_from (l.self.n - l.i) l.self.s.now (l.self.at + 8 * l.i)))
