-- `put_escaped` goes block by block. The invariant: what is left to write is `rest`, escaped.
-- A block is stored whole, and what is left goes over what stands behind its run: `run_written`; an escape is two bytes
-- more: `run_letter`.
use Rattle.std.proofs.Common.{◌≡◌, ◌≤◌, length}
use Rattle.buffer.proofs.Laws.{Left}
use Rattle.escape.specs.Escape.{escaped}
use Rattle.escape.specs.inner.Which.{byte_of}
use Rattle.escape.proofs.put_escaped.Given as goal

abbrev pub invariant-loop-rest : goal.invariant-loop-rest
invariant-loop-rest l = record {
  place : l.o ≤ length l.out;
  same : length l.out ≡ length l.initial.out;
  left : Left l.initial.out l.at (escaped (byte_of l.k) l.s) l.out l.o (escaped (byte_of l.k) l.rest);
}

abbrev pub decreases-loop-rest : goal.decreases-loop-rest
decreases-loop-rest l = length l.rest
