-- `extend_eight` makes eight more words of the schedule. The invariant: what the first i words are extended to is the
-- schedule of t + 8. Each turn is `schedule_turn`, the end `schedule_done`.
use Rattle.std.proofs.Common.{◌≡◌, ◌+◌, ◌-◌, take}
use Rattle.sha256.specs.Compression.{schedule}
use Rattle.sha256.proofs.extend_eight.Given as goal

abbrev pub invariant-loop-i : goal.invariant-loop-i
invariant-loop-i l = schedule (l.t + 8 - l.i) (take l.i l.w) ≡ schedule 8 (take l.t l.initial.w)
