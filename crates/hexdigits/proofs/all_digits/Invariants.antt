-- `all_digits` tests block by block. The invariant is one equation: the whole text passes exactly if what is left of it
-- does.
use Rattle.std.proofs.Common.{◌≡◌, length}
use Rattle.hexdigits.specs.Hex.{all_digits}
use Rattle.hexdigits.proofs.all_digits.Given as goal

abbrev pub invariant-loop-block : goal.invariant-loop-block
invariant-loop-block l = all_digits l.t ≡ all_digits l.left

abbrev pub decreases-loop-block : goal.decreases-loop-block
decreases-loop-block l = length l.left
