-- `measure_tags` measures the tags as it goes over them again. The invariant: what was gathered and what the tags left
-- give is what all give,
-- for whether they fit, the descriptors and the length; the length is at most 16,712,193 for each. Each turn is one law
-- for each.
use Prim.Native.Nat.{◌+◌, ◌*◌, ◌-◌, ◌≤◌}
use mathlib.Core.Path.{◌≡◌}
use mathlib.Core.List.{map}
use lib.ListN.{length}
use Rattle.buffer.proofs.Laws.{Left}
use Rattle.escape.specs.Escape.{nson_byte}
use Rattle.notepack.specs.inner.Again.{tags_again}
use Rattle.jsontags.specs.TagText.{commaed, tag_text}
use Rattle.nson.specs.Nson.{escaped_size, tag_counts}
use Rattle.nson.specs.inner.Decision.{tags_fit}
use Rattle.nsonwrite.proofs.measure_tags.Given as goal

abbrev pub invariant-loop-i : goal.invariant-loop-i
invariant-loop-i l =
    (tags_fit (tags_again l.count l.s l.initial.next) ≡ tags_fit (tags_again (l.count - l.i) l.s l.next))
    × Left l.initial.d l.initial.out (tag_counts (map (map escaped_size) (tags_again l.count l.s l.initial.next))) l.d l.out (tag_counts (map (map escaped_size) (tags_again (l.count - l.i) l.s l.next)))
    × (l.len + length (commaed (map (tag_text nson_byte) (tags_again (l.count - l.i) l.s l.next))) ≡ l.initial.len + length (commaed (map (tag_text nson_byte) (tags_again l.count l.s l.initial.next))))
    × (l.len + 16_712_193 * (l.count - l.i) ≤ l.initial.len + 16_712_193 * l.count)
