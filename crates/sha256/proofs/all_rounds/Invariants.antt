-- `all_rounds` makes the schedule and goes through the rounds, eight of each in a turn. The invariant is `Going`: what
-- is made is the schedule's start, and the rounds that are left give the result.
-- Each turn is `going_turn`, the last sixteen rounds are `going_done`.
use Rattle.std.proofs.Common.{◌*◌, take}
use Rattle.sha256.specs.Compression.{schedule, rounds}
use Rattle.sha256.proofs.Turns.{Going}
use Rattle.sha256.proofs.all_rounds.Given as goal

abbrev pub invariant-loop-i : goal.invariant-loop-i
invariant-loop-i l = Going (schedule 48 (take 16 l.initial.w)) (rounds (schedule 48 (take 16 l.initial.w)) 64 0 l.initial.v) l.w (8 * l.i) l.v
