-- `highest` keeps a number that no byte so far is above. The invariant: that, up to here.
use Rattle.std.proofs.Common.{ℕ, ◌<◌, ◌≤◌, get_or}
use Rattle.utf8.proofs.windows.highest.Given as goal

abbrev pub invariant-loop-b : goal.invariant-loop-b
invariant-loop-b l = (k : ℕ) → k < l.b-index → get_or l.block k 0 ≤ l.top
