use Rattle.std.proofs.Common.{arith, ap, length, length-append}
use Rattle.escape.specs.Escape.{nson_byte}
use Rattle.escape.specs.inner.Controls.{nson_text}
use Rattle.escape.proofs.ByteLaws.{nson_escaping}
use Rattle.escape.proofs.TextLaws.{length_most}
use Rattle.escape.proofs.BlockLaws.{grow_more, grow_end, controls_block, controls_end}
use Rattle.escape.proofs.nson_size.Goals as goal

pub overflow_add-len : goal.overflow_add-len
overflow_add-len c =
    let turn = grow_more nson_byte nson_escaping _ _ _ c.loop-block.invariant.len _ _ _ c.in-Some.ensures.steps.1.0 c.count_block-x.ensures.block_value in
    omega (arith, c.from-len.ensures, turn.1)

pub loop-block-preserved : goal.loop-block-preserved
loop-block-preserved c =
    let q = c.loop-block.invariant in
    let x = c.count_block-x.ensures in
    let cut = c.in-Some.ensures.steps.1.0 in
    let e = c.from-controls.ensures in
    record {
      size = omega arith;
      len = rw c.from-len.ensures (grow_more nson_byte nson_escaping _ _ _ q.len _ _ _ cut x.block_value).0;
      controls = rw e (controls_block _ _ _ q.controls _ _ _ cut x.controls_value);
      controls_fit = let h = simp length-append at (ap length cut) in omega (arith, e);
    }

pub returns-clause-len_value : goal.returns-clause-len_value
returns-clause-len_value c = grow_end nson_byte nson_escaping _ _ _ c.loop-block.invariant.len c.in-None.ensures.steps.1.0

pub returns-clause-fits_value : goal.returns-clause-fits_value
unfolding nson_text
returns-clause-fits_value c = rw (controls_end _ _ _ c.loop-block.invariant.controls c.in-None.ensures.steps.1.0)

pub returns-clause-len_bound : goal.returns-clause-len_bound
returns-clause-len_bound c = rw (returns-clause-len_value c) (length_most nson_byte nson_escaping c.args.s.now)
