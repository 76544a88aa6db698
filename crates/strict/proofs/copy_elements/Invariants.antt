-- `copy_elements` writes the strict elements as it goes over them again. The invariant: what is left to write is that
-- of the texts left, and they end where all end.
-- Each turn is one law.
use Prim.Native.Nat.{◌-◌}
use mathlib.Core.Path.{◌≡◌}
use Rattle.buffer.proofs.Laws.{Left}
use Rattle.notepack.specs.Strict.{pack_elements}
use Rattle.notepack.specs.inner.Again.{texts_again, texts_end}
use Rattle.strict.proofs.copy_elements.Given as goal

abbrev pub invariant-loop : goal.invariant-loop
invariant-loop l =
    Left l.initial.out l.at (pack_elements (texts_again l.count l.s l.from)) l.out l.o (pack_elements (texts_again (l.count - l.counter) l.s l.i))
    × (texts_end l.count l.s l.from ≡ texts_end (l.count - l.counter) l.s l.i)
