-- `tags_len` measures the tags as it goes over them again. The invariant: what is counted and the length of those left
-- are the length of all;
-- what is counted is at most 33,424,128 for each. Each turn is one law.
use Prim.Native.Nat.{◌+◌, ◌*◌, ◌≤◌, ◌-◌}
use mathlib.Core.Path.{◌≡◌}
use mathlib.Core.List.{map}
use lib.ListN.{length}
use Rattle.escape.specs.Escape.{canonical_byte}
use Rattle.notepack.specs.inner.Again.{tags_again}
use Rattle.jsontags.specs.TagText.{commaed, tag_text}
use Rattle.canonical.proofs.tags_len.Given as goal

abbrev pub invariant-loop-i : goal.invariant-loop-i
invariant-loop-i l =
    (l.n + length (commaed (map (tag_text canonical_byte) (tags_again (l.count - l.i) l.packed.bytes.now l.at))) ≡ l.initial.n + length (commaed (map (tag_text canonical_byte) (tags_again l.count l.packed.bytes.now l.initial.at))))
    × (l.n + 33_424_128 * (l.count - l.i) ≤ l.initial.n + 33_424_128 * l.count)
