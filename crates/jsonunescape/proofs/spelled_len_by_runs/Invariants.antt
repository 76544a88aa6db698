-- `spelled_len_by_runs` counts the text. The invariant is `Measured`: no more is counted than was passed.
-- A turn is a run and an escape: `measured_run` and `measured_escape`.
use Prim.Native.Nat.{◌-◌}
use lib.ListN.{length}
use Rattle.jsonunescape.proofs.Unescape.{Measured}
use Rattle.jsonunescape.proofs.spelled_len_by_runs.Given as goal

abbrev pub invariant-loop-i : goal.invariant-loop-i
invariant-loop-i l = Measured l.t l.i l.n

abbrev pub decreases-loop-i : goal.decreases-loop-i
decreases-loop-i l = length l.t - l.i
