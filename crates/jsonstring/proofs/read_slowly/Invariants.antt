-- `read_slowly` reads a string. The invariant of both loops: the string read from its start is the string read
-- from here.
-- A block of plain bytes is passed by `text_plain`; each turn and each end of the inner loop is one law of `texts`.
use Prim.Native.Nat.{◌+◌, ◌-◌, ◌≤◌}
use lib.ListN.{length}
use Rattle.jsonstring.proofs.Turn.{InText}
use Rattle.jsonstring.proofs.read_slowly.Given as goal

abbrev pub invariant-loop-i-2 : goal.invariant-loop-i-2
invariant-loop-i-2 l = (l.at + 1 ≤ l.i) × InText l.s l.at l.i × (l.end ≤ length l.s)

abbrev pub decreases-loop-i-2 : goal.decreases-loop-i-2
decreases-loop-i-2 l = length l.s - l.i

abbrev pub invariant-loop-i : goal.invariant-loop-i
invariant-loop-i l = (l.at + 1 ≤ l.i) × InText l.s l.at l.i

abbrev pub decreases-loop-i : goal.decreases-loop-i
decreases-loop-i l = length l.s - l.i
