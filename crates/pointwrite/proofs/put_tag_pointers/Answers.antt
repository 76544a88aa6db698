use native.Mathlib.Omega.{arith}
use Rattle.pointwrite.proofs.Turns.{tag_steps, tag_fits}
use Rattle.pointwrite.proofs.put_tag_pointers.Goals as goal

-- the table stands in the data
pub put_pointer-requires : goal.put_pointer-requires
put_pointer-requires c =
    let q = c.loop in
    let p = c.args.packed.now in
    omega (arith, tag_fits p.bytes.now p.head.tag_count q.counter q.reached.next c.loop-test.true q.reached.offset q.invariant.1 c.requires, c.measure_tag-tag.ensures.table_value)

pub loop-preserved : goal.loop-preserved
loop-preserved c = (search tag_steps, search tag_steps)
