use Rattle.pointwrite.proofs.Turns.{text_steps, text_fits, texts_ended, texts_gathered}
use Rattle.pointwrite.proofs.put_text_pointers.Goals as goal

-- the text stands in the data
pub put_pointer-requires : goal.put_pointer-requires
put_pointer-requires c =
    let read = c.part_again-next.ensures in
    let q = c.loop in
    text_fits c.args.packed.now.bytes.now c.args.count q.counter q.reached.next c.loop-test.true read.part_value read.next_value q.reached.offset q.invariant.1 c.requires c.text_len.ensures.value

pub loop-preserved : goal.loop-preserved
loop-preserved c = (search text_steps, search text_steps, search text_steps)

pub returns-clause-offset_value : goal.returns-clause-offset_value
returns-clause-offset_value c =
    let q = c.loop in
    texts_gathered c.args.packed.now.bytes.now c.args.count q.counter q.reached.next c.loop-test.false q.invariant.1

pub returns-clause-next_value : goal.returns-clause-next_value
returns-clause-next_value c = let q = c.loop in texts_ended c.args.packed.now.bytes.now c.args.count q.counter q.reached.next c.loop-test.false q.invariant.2
