-- `put_number` writes the lowest bytes of its number. The invariant: what is left to write is the lowest bytes of the
-- rest. Each turn is `low_more`, the end `low_none`.
use Rattle.std.proofs.Common.{◌-◌}
use Rattle.buffer.proofs.Laws.{Left}
use Rattle.littleendian.specs.LittleEndian.{low_first}
use Rattle.littleendian.proofs.put_number.Given as goal

abbrev pub invariant-loop : goal.invariant-loop
invariant-loop l = Left l.initial.out l.at (low_first l.n l.v) l.out l.o (low_first (l.n - l.counter) l.rest)
