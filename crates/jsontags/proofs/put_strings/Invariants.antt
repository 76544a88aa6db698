-- `put_strings` writes the elements as it goes over them again. The invariant: what is left to write is the text of the
-- elements left,
-- and they end where all end. Each turn is one law.
use Prim.Native.Nat.{◌-◌}
use mathlib.Core.Path.{◌≡◌}
use mathlib.Core.List.{map}
use Rattle.buffer.proofs.Laws.{Left}
use Rattle.escape.specs.inner.Which.{byte_of}
use Rattle.notepack.specs.inner.Again.{texts_again, texts_end}
use Rattle.jsontags.specs.TagText.{quoted, commaed}
use Rattle.jsontags.proofs.put_strings.Given as goal

abbrev pub invariant-loop-n : goal.invariant-loop-n
invariant-loop-n l =
    Left l.initial.out l.initial.o (commaed (map (quoted (byte_of l.k)) (texts_again l.count l.s l.initial.i))) l.out l.o (commaed (map (quoted (byte_of l.k)) (texts_again (l.count - l.n) l.s l.i)))
    × (texts_end l.count l.s l.initial.i ≡ texts_end (l.count - l.n) l.s l.i)
