-- `fill` goes backwards. The invariant: the table has the stops of the words from i on, and else is as it was.
-- A turn is `fill_more`; what a word needs of those behind it is `fill_told`.
use Rattle.utf8stops.proofs.Turns.{Filled}
use Rattle.utf8stops.proofs.fill.Given as goal

abbrev pub invariant-loop-i : goal.invariant-loop-i
invariant-loop-i l = Filled l.d l.initial.stops l.i l.stops
