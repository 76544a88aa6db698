-- `put_each` writes byte after byte. The invariant: what is left to write is s from the index on, escaped.
-- A turn is one byte of it, by `part`.
use Rattle.std.proofs.Common.{drop}
use Rattle.buffer.proofs.Laws.{Left}
use Rattle.escape.specs.Escape.{escaped}
use Rattle.escape.specs.inner.Which.{byte_of}
use Rattle.escape.proofs.put_each.Given as goal

abbrev pub invariant-loop-b : goal.invariant-loop-b
invariant-loop-b l = Left l.initial.out l.at (escaped (byte_of l.k) l.s) l.out l.o (escaped (byte_of l.k) (drop l.b-index l.s))
