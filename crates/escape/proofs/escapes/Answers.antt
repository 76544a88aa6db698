use Rattle.std.proofs.Common.{arith}
use Rattle.escape.proofs.BlockLaws.{at_most_one, count_more, count_all}
use Rattle.escape.proofs.escapes.Goals as goal

pub loop-b-preserved : goal.loop-b-preserved
loop-b-preserved c =
    let e = c.from-n.ensures in
    (omega (arith, e, at_most_one c.is_escaped.result), count_more _ _ _ _ _ c.loop-b.invariant.1 (omega arith) c.is_escaped.ensures e)

pub returns : goal.returns
returns c = count_all _ _ _ _ _ c.loop-b.invariant.1 (omega arith) (omega arith)
