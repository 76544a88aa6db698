-- `counted_number`: a part that is one run of digits of full width is within the input.
use Rattle.std.proofs.Common.{arith}
use Rattle.nsoncounts.proofs.Decimals.{number_fits}
use Rattle.nsoncounts.proofs.counted_number.Goals as goal

pub overflow_add-result : goal.overflow_add-result
overflow_add-result c =
    omega (arith, number_fits c.args.max c.args.n c.args.s.now c.args.at c.part-l.ensures c.in-Ok.ensures c.is_full_width.ensures c.if-is_full_width.true)
