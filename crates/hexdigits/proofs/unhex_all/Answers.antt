use Rattle.std.proofs.Common.{arith}
use Rattle.hexdigits.proofs.Pairs.{block_written}
use Rattle.hexdigits.proofs.unhex_all.Goals as goal

pub loop-block-preserved : goal.loop-block-preserved
loop-block-preserved c =
    let v = c.loop-block.invariant in
    let k = c.in-Some.ensures.cases in
    rw k.1 (block_written _ (omega (arith, k.2)) v.0 v.1 (rw k.0 at c.unhex_block-o.ensures))
