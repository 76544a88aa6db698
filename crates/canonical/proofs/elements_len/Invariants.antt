-- `elements_len` measures the elements as it goes over them again. The invariant: what is counted and the length of
-- those left are the length of all,
-- and they end where all end; what is counted is at most 131,075 for each. Each turn is one law.
use Prim.Native.Nat.{◌+◌, ◌*◌, ◌≤◌, ◌-◌}
use mathlib.Core.Path.{◌≡◌}
use mathlib.Core.List.{map}
use lib.ListN.{length}
use Rattle.escape.specs.Escape.{canonical_byte}
use Rattle.notepack.specs.inner.Again.{texts_again, texts_end}
use Rattle.jsontags.specs.TagText.{quoted, commaed}
use Rattle.canonical.proofs.elements_len.Given as goal

abbrev pub invariant-loop-i : goal.invariant-loop-i
invariant-loop-i l =
    (l.n + length (commaed (map (quoted canonical_byte) (texts_again (l.count - l.i) l.packed.bytes.now l.at))) ≡ l.initial.n + length (commaed (map (quoted canonical_byte) (texts_again l.count l.packed.bytes.now l.initial.at))))
    × (texts_end l.count l.packed.bytes.now l.initial.at ≡ texts_end (l.count - l.i) l.packed.bytes.now l.at)
    × (l.n + 131_075 * (l.count - l.i) ≤ l.initial.n + 131_075 * l.count)
