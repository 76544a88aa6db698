-- `copy_tags` writes the strict tags as it goes over them again. The invariant: what is left to write is that of the
-- tags left.
-- Each turn is one law: the count, the elements, and the tags behind where they end.
use Prim.Native.Nat.{◌-◌}
use Rattle.buffer.proofs.Laws.{Left}
use Rattle.notepack.specs.Strict.{pack_tags}
use Rattle.notepack.specs.inner.Again.{tags_again}
use Rattle.strict.proofs.copy_tags.Given as goal

abbrev pub invariant-loop : goal.invariant-loop
invariant-loop l = Left l.initial.out l.at (pack_tags (tags_again l.count l.s l.from)) l.out l.o (pack_tags (tags_again (l.count - l.counter) l.s l.i))
