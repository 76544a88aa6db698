-- `first_fault` goes character by character. The invariant is `At`: the earliest fault of the whole is the earliest
-- from here on.
-- Every turn and every way out is one law of `turns`.
use Prim.Native.Nat.{◌-◌}
use lib.ListN.{length}
use Rattle.nsonstring.proofs.Turns.{At}
use Rattle.nsonstring.proofs.first_fault.Given as goal

abbrev pub invariant-loop-i : goal.invariant-loop-i
invariant-loop-i l = At l.t l.i

abbrev pub decreases-loop-i : goal.decreases-loop-i
decreases-loop-i l = length l.t - l.i
