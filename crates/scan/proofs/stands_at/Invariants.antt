-- `stands_at` compares byte by byte where bytes enough are left. The invariant is one equation: w stands at `at`
-- exactly if the rest of w begins the rest of s.
-- Each turn is one of the laws `stands_again`, `stands_other`, `stands_whole`.
use Rattle.std.proofs.Common.{◌+◌, ◌-◌, ◌≤◌, ◌≡◌, length, drop}
use Rattle.scan.specs.Place.{begins, stands_at}
use Rattle.scan.proofs.stands_at.Given as goal

abbrev pub invariant-loop-j : goal.invariant-loop-j
invariant-loop-j l = (length l.w ≤ length l.s - l.at) × (stands_at l.w l.s l.at ≡ begins (drop l.j l.w) (drop (l.at + l.j) l.s))
