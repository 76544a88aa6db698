-- `put_decimal` fills an array from the back with the digits and writes them: the digits of what is left and those in
-- the array are the digits of n.
-- A turn is `decimal_more` and the law `back`; the array has room for them by `length_u64`.
use Prim.Native.Nat.{◌+◌, ◌≤◌}
use mathlib.Core.Path.{◌≡◌}
use mathlib.Core.List.{◌++◌}
use lib.ListN.{length, drop}
use Rattle.decimal.specs.Decimal.{decimal}
use Rattle.decimal.proofs.put_decimal.Given as goal

abbrev pub invariant-loop-rest : goal.invariant-loop-rest
invariant-loop-rest l = (l.k ≤ 20) × (length (decimal l.n) ≤ 20) × (l.k + length (decimal l.n) ≡ 20 + length (decimal l.rest)) × (length l.digits ≡ 20) × (decimal l.rest ++ drop l.k l.digits ≡ decimal l.n)

abbrev pub decreases-loop-rest : goal.decreases-loop-rest
decreases-loop-rest l = l.rest
