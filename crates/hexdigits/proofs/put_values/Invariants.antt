-- `put_values` stores the value of each digit. The invariant: what is left to write are the values of t from i on.
-- A turn opens `values_of` once and stores one byte.
use Rattle.std.proofs.Common.{drop}
use Rattle.buffer.proofs.Laws.{Left}
use Rattle.hexdigits.specs.inner.Block.{values_of}
use Rattle.hexdigits.proofs.put_values.Given as goal

abbrev pub invariant-loop-i : goal.invariant-loop-i
invariant-loop-i l = Left l.initial.out 0 (values_of l.t) l.out l.i (values_of (drop l.i l.t))
