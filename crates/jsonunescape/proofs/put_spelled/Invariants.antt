-- `put_spelled` writes the text. The invariant: what is left to write is the text from here on.
-- A turn writes a run, by `unescape_run`, and what an escape stands for, by `turn_text`.
use Prim.Native.Nat.{◌-◌}
use lib.ListN.{length, drop}
use Rattle.buffer.proofs.Laws.{Left}
use Rattle.jsontext.specs.inner.Escape.{unescape}
use Rattle.jsonunescape.proofs.put_spelled.Given as goal

abbrev pub invariant-loop-i : goal.invariant-loop-i
invariant-loop-i l = Left l.initial.out l.at (unescape l.t) l.out l.o (unescape (drop l.i l.t))

abbrev pub decreases-loop-i : goal.decreases-loop-i
decreases-loop-i l = length l.t - l.i
