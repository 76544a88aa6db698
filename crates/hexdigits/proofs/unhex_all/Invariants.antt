-- `unhex_all` goes in blocks of 64 digits. The invariant: what is left to write are the bytes of the digits that are
-- left, and there is room for them.
-- A turn is `block_written`.
use Rattle.std.proofs.Common.{◌+◌, ◌/◌, ◌≤◌, length}
use Rattle.buffer.proofs.Laws.{Left}
use Rattle.hexdigits.specs.Hex.{unhex}
use Rattle.hexdigits.proofs.unhex_all.Given as goal

abbrev pub invariant-loop-block : goal.invariant-loop-block
invariant-loop-block l = (l.o + length l.left / 2 ≤ length l.out) × Left l.initial.out l.at (unhex l.t) l.out l.o (unhex l.left)

abbrev pub decreases-loop-block : goal.decreases-loop-block
decreases-loop-block l = length l.left
