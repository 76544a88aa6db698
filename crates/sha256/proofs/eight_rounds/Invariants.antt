-- `eight_rounds` goes through eight rounds, one in a turn. The invariant: the rounds that are left give the result.
use Rattle.std.proofs.Common.{◌≡◌, ◌+◌, ◌-◌}
use Rattle.sha256.specs.Compression.{rounds}
use Rattle.sha256.proofs.eight_rounds.Given as goal

abbrev pub invariant-loop-i : goal.invariant-loop-i
invariant-loop-i l = rounds l.w (l.t + 8 - l.i) l.i l.v ≡ rounds l.w 8 l.t l.initial.v
