-- `copy` writes all of s. What is left to write is s from the turn's number on, and the place is `at` and that number.
-- Each turn is the law `byte`; the room is arithmetic on the requirement.
use Rattle.std.proofs.Common.{◌+◌, ◌≡◌, length, drop}
use Rattle.buffer.proofs.Laws.{Left}
use Rattle.buffer.proofs.copy.Given as goal

abbrev pub invariant-loop-b : goal.invariant-loop-b
invariant-loop-b l = (l.o ≡ l.at + l.b-index) × (length l.out ≡ length l.initial.out) × Left l.initial.out l.at l.s l.out l.o (drop l.b-index l.s)
