-- `put_json_tags` writes the strict tags as it reads them again. The invariant: what is left to write is the text of
-- the tags left.
-- Each turn is one law: the count, the texts, and the tags behind where they end.
use Prim.Native.Nat.{◌-◌}
use Rattle.buffer.proofs.Laws.{Left}
use Rattle.jsonread.specs.inner.Copy.{json_tags_text}
use Rattle.jsonread.proofs.put_json_tags.Given as goal

abbrev pub invariant-loop : goal.invariant-loop
invariant-loop l =
    Left l.initial.out l.initial.o (json_tags_text l.count l.s l.fn.from) l.out l.o (json_tags_text (l.count - l.counter) l.s l.i)
