use Rattle.std.proofs.Common.{arith}
use Rattle.escape.specs.inner.Which.{byte_of}
use Rattle.escape.proofs.ByteLaws.{escaping}
use Rattle.escape.proofs.TextLaws.{growth_most}
use Rattle.escape.proofs.BlockLaws.{grow_more, grow_end}
use Rattle.escape.proofs.escaped_len.Goals as goal

pub overflow_add-n : goal.overflow_add-n
overflow_add-n c =
    let k = c.args.k in
    let turn = grow_more (byte_of k) (escaping k) _ _ _ c.loop-block.invariant.sum _ _ _ c.in-Some.ensures.steps.1.0 c.escapes.ensures in
    omega (arith, c.from-n.ensures, turn.1)

pub loop-block-preserved : goal.loop-block-preserved
loop-block-preserved c =
    let k = c.args.k in
    let turn = grow_more (byte_of k) (escaping k) _ _ _ c.loop-block.invariant.sum _ _ _ c.in-Some.ensures.steps.1.0 c.escapes.ensures in
    record {
      size = omega arith;
      sum = rw c.from-n.ensures turn.0;
    }

pub returns-clause-value : goal.returns-clause-value
returns-clause-value c = let k = c.args.k in grow_end (byte_of k) (escaping k) _ _ _ c.loop-block.invariant.sum c.in-None.ensures.steps.1.0

pub returns-clause-upper_bound : goal.returns-clause-upper_bound
returns-clause-upper_bound c = rw (returns-clause-value c) (growth_most c.args.k c.args.s.now)
