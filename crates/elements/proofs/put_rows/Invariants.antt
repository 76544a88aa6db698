-- `put_rows` writes the rows of the elements as it goes over them again. The invariant: what is left to write is that
-- of the elements left, and they end where all end. Each turn is one law.
use Prim.Native.Nat.{◌-◌}
use mathlib.Core.Path.{◌≡◌}
use Rattle.buffer.proofs.Laws.{Left}
use Rattle.notepack.specs.inner.Again.{texts_end}
use Rattle.elements.specs.Elements.{rows}
use Rattle.elements.specs.inner.Again.{tag_again}
use Rattle.elements.proofs.put_rows.Given as goal

abbrev pub invariant-loop : goal.invariant-loop
invariant-loop l =
    Left l.initial.out l.at (rows (tag_again l.count l.tag l.s l.from)) l.out l.o (rows (tag_again (l.count - l.counter) l.tag l.s l.i))
    × (texts_end l.count l.s l.from ≡ texts_end (l.count - l.counter) l.s l.i)
