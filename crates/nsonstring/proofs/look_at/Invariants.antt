-- `look_at` adds up three sums over neighbours. The invariant: each sum and what is left make the whole.
-- A byte adds at most 1 to each, so a sum is below i and fits a byte.
use Rattle.std.proofs.Common.{◌≡◌, ◌+◌, ◌-◌, ◌<◌, get_or, drop}
use Rattle.scan.specs.inner.Blocks.{neighbours}
use Rattle.jsonstring.specs.inner.Loose.{clash_of}
use Rattle.nsonstring.specs.inner.Simple.{slash_of, high_of}
use Rattle.nsonstring.proofs.look_at.Given as goal

abbrev pub invariant-loop-i : goal.invariant-loop-i
invariant-loop-i l = record {
  clashes_fit : l.clashes < l.i;
  slashes_fit : l.slashes < l.i;
  high_fit : l.high < l.i;
  clashes : l.clashes + neighbours clash_of (get_or l.block (l.i - 1) 0) (drop l.i l.block) ≡ neighbours clash_of (get_or l.block 0 0) (drop 1 l.block);
  slashes : l.slashes + neighbours slash_of (get_or l.block (l.i - 1) 0) (drop l.i l.block) ≡ neighbours slash_of (get_or l.block 0 0) (drop 1 l.block);
  high : l.high + neighbours high_of (get_or l.block (l.i - 1) 0) (drop l.i l.block) ≡ neighbours high_of (get_or l.block 0 0) (drop 1 l.block);
}
