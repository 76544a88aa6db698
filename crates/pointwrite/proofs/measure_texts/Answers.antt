use native.Mathlib.Omega.{arith}
use Rattle.pointwrite.proofs.Turns.{text_steps, texts_ended, texts_gathered}
use Rattle.pointwrite.proofs.measure_texts.Goals as goal

pub loop-preserved : goal.loop-preserved
loop-preserved c = (search text_steps, search text_steps, omega arith)

pub returns-clause-len_value : goal.returns-clause-len_value
returns-clause-len_value c = let q = c.loop in texts_gathered c.args.packed.now.bytes.now c.args.count q.counter q.i c.loop-test.false q.invariant.0

pub returns-clause-next_value : goal.returns-clause-next_value
returns-clause-next_value c = let q = c.loop in texts_ended c.args.packed.now.bytes.now c.args.count q.counter q.i c.loop-test.false q.invariant.1
