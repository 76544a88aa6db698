-- `count_simple` adds up block by block. The invariant is `Counting`, with the last byte that was looked at first.
-- Each block is one turn; every way out with none says nothing.
use Rattle.std.proofs.Common.{◌≡◌, ◌-◌, length, get_or}
use Rattle.nsonstring.proofs.Counting.{Counting}
use Rattle.nsonstring.proofs.count_simple.Given as goal

abbrev pub invariant-loop-i : goal.invariant-loop-i
invariant-loop-i l = record {
  counting : Counting l.t l.i l.k.slashes l.k.high;
  ended : get_or l.t (length l.t - 1) 0 ≡ 0x5C → ⊥;
}

abbrev pub decreases-loop-i : goal.decreases-loop-i
decreases-loop-i l = length l.t - l.i
