use Rattle.std.proofs.Common.{arith}
use Rattle.escape.specs.declared.Escaping.TheVariants.{Nson}
use Rattle.escape.proofs.BlockLaws.{at_most_one, count_more, count_all, control_more, control_all}
use Rattle.escape.proofs.count_block.Goals as goal

pub loop-b-preserved : goal.loop-b-preserved
loop-b-preserved c =
    let v = c.loop-b.invariant in
    let e = c.from-escapes.ensures in
    record {
      escapes_fit = omega (arith, e, at_most_one c.is_escaped.result);
      controls_fit = omega arith;
      escapes = count_more Nson _ _ _ _ v.escapes (omega arith) c.is_escaped.ensures e;
      controls = rw c.is_uncarried-controls.ensures.value (control_more c.args.block.now c.loop-b.b-index _ _ v.controls (omega arith));
    }

pub returns-clause-block_value : goal.returns-clause-block_value
returns-clause-block_value c = count_all Nson _ _ _ _ c.loop-b.invariant.escapes (omega arith) (omega arith)

pub returns-clause-controls_value : goal.returns-clause-controls_value
returns-clause-controls_value c = control_all c.args.block.now c.loop-b.b-index _ _ c.loop-b.invariant.controls (omega arith)
