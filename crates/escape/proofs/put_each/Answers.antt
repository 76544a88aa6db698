use Rattle.std.proofs.Common.{arith, ◌<◌, length}
use Rattle.scan.proofs.Step.{rest_none, rest_more}
use Rattle.buffer.proofs.Laws.{part, done}
use Rattle.escape.proofs.TextLaws.{escaped_none, escaped_more}
use Rattle.escape.proofs.put_each.Goals as goal

pub loop-b-preserved : goal.loop-b-preserved
loop-b-preserved c =
    let h : c.loop-b.b-index < length c.args.s.now = omega arith in
    let left = rw (rest_more _ _ h, escaped_more _ _ _) at c.loop-b.invariant in
    part left c.put_one-o.ensures

pub returns : goal.returns
returns c =
    done (rw (rest_none c.args.s.now c.loop-b.b-index (omega arith), escaped_none _) at c.loop-b.invariant)
