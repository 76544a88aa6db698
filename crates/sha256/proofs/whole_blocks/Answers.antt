use Rattle.std.proofs.Common.{arith}
use Rattle.sha256.proofs.Turns.{blocks_turn, blocks_done}
use Rattle.sha256.proofs.whole_blocks.Goals as goal

pub loop-block-preserved : goal.loop-block-preserved
loop-block-preserved c =
    let q = c.loop-block.invariant in
    let cut = c.in-Some.ensures.steps in
    record {
      size = omega arith;
      hash = blocks_turn _ _ _ _ _ _ q.hash cut.1.0 (omega (arith, cut.1.1)) c.compress_block-h.ensures;
    }

pub returns : goal.returns
returns c = blocks_done _ _ _ c.loop-block.invariant.hash (omega (arith, c.in-None.ensures.steps.1.0))
