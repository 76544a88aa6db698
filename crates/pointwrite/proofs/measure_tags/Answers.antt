use native.Mathlib.Omega.{arith}
use Rattle.pointwrite.proofs.Turns.{tag_steps, tags_gathered}
use Rattle.pointwrite.proofs.measure_tags.Goals as goal

pub loop-preserved : goal.loop-preserved
loop-preserved c = (search tag_steps, omega arith)

pub returns-clause-value : goal.returns-clause-value
returns-clause-value c =
    let q = c.loop in
    let p = c.args.packed.now in
    tags_gathered p.bytes.now p.head.tag_count q.counter q.next c.loop-test.false q.invariant.0
