use Rattle.pointwrite.proofs.Turns.{tag_steps, tag_fits}
use Rattle.pointwrite.proofs.put_tags.Goals as goal

-- the tag stands in the data
pub put_tag-reached-requires : goal.put_tag-reached-requires
put_tag-reached-requires c =
    let q = c.loop in
    let p = c.args.packed.now in
    tag_fits p.bytes.now p.head.tag_count q.counter q.reached.next c.loop-test.true q.reached.offset q.invariant.1 c.requires

pub loop-preserved : goal.loop-preserved
loop-preserved c = (search tag_steps, search tag_steps)
