-- `measure_tags` measures the tags as it goes over them again. The invariant: what was gathered and what the tags left
-- take is what all take; each takes at most 33,427,185 bytes. Each turn is one law.
use Prim.Native.Nat.{◌+◌, ◌*◌, ◌-◌, ◌≤◌}
use mathlib.Core.Path.{◌≡◌}
use Rattle.notepack.specs.inner.Again.{tags_again}
use Rattle.pointwrite.specs.inner.Pieces.{tags_size}
use Rattle.pointwrite.proofs.measure_tags.Given as goal

abbrev pub invariant-loop : goal.invariant-loop
invariant-loop l =
    (l.len + tags_size (tags_again (l.packed.head.tag_count - l.counter) l.packed.bytes.now l.next) ≡ tags_size (tags_again l.packed.head.tag_count l.packed.bytes.now l.packed.head.tags_at)) × (l.len ≤ 33_427_185 * l.counter)
