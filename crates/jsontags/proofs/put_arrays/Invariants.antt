-- `put_arrays` writes the tags as it goes over them again. The invariant: what is left to write is the text of the tags
-- left.
-- Each turn is one law: a bracket, the strings, a bracket, a comma, and the tags behind where they end.
use Prim.Native.Nat.{◌-◌}
use mathlib.Core.List.{map}
use Rattle.buffer.proofs.Laws.{Left}
use Rattle.escape.specs.inner.Which.{byte_of}
use Rattle.notepack.specs.inner.Again.{tags_again}
use Rattle.jsontags.specs.TagText.{commaed, tag_text}
use Rattle.jsontags.proofs.put_arrays.Given as goal

abbrev pub invariant-loop-n : goal.invariant-loop-n
invariant-loop-n l = Left l.initial.out l.initial.o (commaed (map (tag_text (byte_of l.k)) (tags_again l.count l.s l.initial.i))) l.out l.o (commaed (map (tag_text (byte_of l.k)) (tags_again (l.count - l.n) l.s l.i)))
