-- `is_mixed` goes sequence by sequence. The invariant: the text is well-formed exactly if it is from here on.
-- A width is at least 1, so what is left falls.
use Prim.Native.Nat.{◌-◌}
use lib.ListN.{length}
use Rattle.utf8.proofs.WalkLaws.{Passed}
use Rattle.utf8.proofs.is_mixed.Given as goal

abbrev pub invariant-loop-at : goal.invariant-loop-at
invariant-loop-at l = Passed l.s l.at

abbrev pub decreases-loop-at : goal.decreases-loop-at
decreases-loop-at l = length l.s - l.at
