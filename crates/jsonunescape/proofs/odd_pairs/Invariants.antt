-- `odd_pairs` adds up the odd bytes of a block behind its first. The invariant: the sum and what is left make the
-- whole.
-- A byte adds at most 1, so the sum is at most 128 and fits a byte.
use Prim.Native.Nat.{◌+◌, ◌-◌, ◌≤◌}
use mathlib.Core.Path.{◌≡◌}
use lib.ListN.{get_or, drop}
use Rattle.scan.specs.inner.Blocks.{neighbours}
use Rattle.jsonunescape.specs.inner.Short.{odd_of}
use Rattle.jsonunescape.proofs.odd_pairs.Given as goal

abbrev pub invariant-loop-i : goal.invariant-loop-i
invariant-loop-i l = (l.n ≤ l.i - 1) × (l.n + neighbours odd_of (get_or l.block (l.i - 1) 0) (drop l.i l.block) ≡ neighbours odd_of (get_or l.block 0 0) (drop 1 l.block))
