-- `spelled_digits` asks run by run and escape by escape: the text is digits exactly if the text from here on is.
-- A turn is `digits_run` and `digits_escape`.
use Prim.Native.Nat.{◌-◌}
use lib.ListN.{length}
use Rattle.jsonunescape.proofs.Parts.{InDigits}
use Rattle.jsonunescape.proofs.spelled_digits.Given as goal

abbrev pub invariant-loop-i : goal.invariant-loop-i
invariant-loop-i l = InDigits l.t l.i

abbrev pub decreases-loop-i : goal.decreases-loop-i
decreases-loop-i l = length l.t - l.i
