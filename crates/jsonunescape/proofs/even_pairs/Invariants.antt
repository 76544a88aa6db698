-- `even_pairs` looks block by block for odd bytes. The invariant is one equation: there are as many in the whole as
-- there are behind the byte here.
-- A block is one use of `pairs_again`, or of `pairs_odd` where it has one.
use Prim.Native.Nat.{◌+◌, ◌-◌, ◌≤◌}
use mathlib.Core.Path.{◌≡◌}
use lib.ListN.{length, get_or, drop}
use Rattle.scan.specs.inner.Blocks.{neighbours}
use Rattle.jsonunescape.specs.inner.Short.{odd_of}
use Rattle.jsonunescape.proofs.even_pairs.Given as goal

abbrev pub invariant-loop-block : goal.invariant-loop-block
invariant-loop-block l = (l.i ≤ length l.t) × (neighbours odd_of (get_or l.t 0 0) (drop 1 l.t) ≡ neighbours odd_of (get_or l.t l.i 0) (drop (l.i + 1) l.t))

abbrev pub decreases-loop-block : goal.decreases-loop-block
decreases-loop-block l = length l.t - l.i
