-- `put_varint` writes the shortest spelling. The invariant: what is left to write is the spelling of the rest.
-- Each turn is the step `uleb_more`, the last byte `uleb_last`.
use Rattle.buffer.proofs.Laws.{Left}
use Rattle.varint.specs.Uleb.{uleb}
use Rattle.varint.proofs.put_varint.Given as goal

abbrev pub invariant-loop-rest : goal.invariant-loop-rest
invariant-loop-rest l = Left l.initial.out l.at (uleb l.n) l.out l.o (uleb l.rest)

abbrev pub decreases-loop-rest : goal.decreases-loop-rest
decreases-loop-rest l = l.rest
