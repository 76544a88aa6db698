-- `is_spelled` goes from backslash to backslash. The invariant is `Before`: if the text from here on is quoted, the
-- whole is.
-- Each turn is one law of `Runs`; every way out with no says nothing.
use Prim.Native.Nat.{◌-◌, ◌≤◌}
use lib.ListN.{length}
use Rattle.nsonstring.proofs.Runs.{Before}
use Rattle.nsonstring.proofs.is_spelled.Given as goal

abbrev pub invariant-loop-i : goal.invariant-loop-i
invariant-loop-i l = record {
  inside : l.i ≤ length l.t;
  before : Before l.t l.i;
}

abbrev pub decreases-loop-i : goal.decreases-loop-i
decreases-loop-i l = length l.t - l.i
