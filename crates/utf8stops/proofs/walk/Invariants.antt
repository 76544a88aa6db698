-- `walk` goes sequence by sequence. The invariant: the stop from the start is the stop from here.
-- It ends where no sequence stands (`walked_stop`), or at a multiple of 8, which the table tells.
use Prim.Native.Nat.{◌-◌}
use lib.ListN.{length}
use Rattle.utf8stops.proofs.Pass.{Walked}
use Rattle.utf8stops.proofs.walk.Given as goal

abbrev pub invariant-loop-w : goal.invariant-loop-w
invariant-loop-w l = Walked l.d l.at l.p

abbrev pub decreases-loop-w : goal.decreases-loop-w
decreases-loop-w l = length l.d - l.p
