-- `measure_texts` measures the texts as it goes over them again. The invariant: what was gathered and what the texts
-- left take is what all take; they end where all end; each takes at most 131,079 bytes. Each turn is one law.
use Prim.Native.Nat.{◌+◌, ◌*◌, ◌-◌, ◌≤◌}
use mathlib.Core.Path.{◌≡◌}
use lib.ListN.{length}
use Rattle.notepack.specs.inner.Again.{texts_again, texts_end}
use Rattle.pointer.specs.Written.{padded_texts}
use Rattle.pointwrite.proofs.measure_texts.Given as goal

abbrev pub invariant-loop : goal.invariant-loop
invariant-loop l =
    (l.len + length (padded_texts (texts_again (l.count - l.counter) l.packed.bytes.now l.i)) ≡ length (padded_texts (texts_again l.count l.packed.bytes.now l.from)))
    × (texts_end l.count l.packed.bytes.now l.from ≡ texts_end (l.count - l.counter) l.packed.bytes.now l.i)
    × (l.len ≤ 131_079 * l.counter)
