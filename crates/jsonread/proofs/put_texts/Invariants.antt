-- `put_texts` writes the texts of a tag as it reads them again. The invariant: what is left to write is the text of
-- those left, and they end where all end.
-- Each turn is one law; a refusal ends both alike.
use Prim.Native.Nat.{◌-◌}
use mathlib.Core.Path.{◌≡◌}
use Rattle.buffer.proofs.Laws.{Left}
use Rattle.jsonread.specs.inner.Copy.{texts_text, json_texts_end}
use Rattle.jsonread.proofs.put_texts.Given as goal

abbrev pub invariant-loop : goal.invariant-loop
invariant-loop l =
    Left l.initial.out l.initial.o (texts_text l.count l.s l.fn.from) l.out l.o (texts_text (l.count - l.counter) l.s l.i)
    × (json_texts_end l.count l.s l.fn.from ≡ json_texts_end (l.count - l.counter) l.s l.i)
