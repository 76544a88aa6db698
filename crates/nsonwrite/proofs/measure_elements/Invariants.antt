-- `measure_elements` measures the elements as it goes over them again. The invariant: what was gathered and what the
-- texts left give is what all give,
-- for whether they fit, the descriptors, the length and the end; the length is at most 65,538 for each. Each turn is
-- one law for each.
use Prim.Native.Nat.{◌+◌, ◌*◌, ◌-◌, ◌≤◌}
use mathlib.Core.Path.{◌≡◌}
use mathlib.Core.List.{map}
use lib.ListN.{length}
use Rattle.buffer.proofs.Laws.{Left}
use Rattle.escape.specs.Escape.{nson_byte}
use Rattle.notepack.specs.inner.Again.{texts_again, texts_end}
use Rattle.jsontags.specs.TagText.{quoted, commaed}
use Rattle.nson.specs.Nson.{escaped_size, words}
use Rattle.nson.specs.inner.Decision.{all_fit}
use Rattle.nsonwrite.proofs.measure_elements.Given as goal

abbrev pub invariant-loop-i : goal.invariant-loop-i
invariant-loop-i l =
    (all_fit (texts_again l.count l.s l.initial.next) ≡ all_fit (texts_again (l.count - l.i) l.s l.next))
    × Left l.initial.d l.initial.out (words (map escaped_size (texts_again l.count l.s l.initial.next))) l.d l.out (words (map escaped_size (texts_again (l.count - l.i) l.s l.next)))
    × (l.len + length (commaed (map (quoted nson_byte) (texts_again (l.count - l.i) l.s l.next))) ≡ l.initial.len + length (commaed (map (quoted nson_byte) (texts_again l.count l.s l.initial.next))))
    × (texts_end l.count l.s l.initial.next ≡ texts_end (l.count - l.i) l.s l.next)
    × (l.len + 65_538 * (l.count - l.i) ≤ l.initial.len + 65_538 * l.count)
