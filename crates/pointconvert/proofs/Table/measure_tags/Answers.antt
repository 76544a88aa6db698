use Rattle.pointconvert.proofs.Turns.{tags_fit}
use Rattle.pointconvert.proofs.Table.measure_tags.Goals as goal

pub returns : goal.returns
returns c =
    let t = c.args.self.now in
    let q = c.loop-i in
    tags_fit t.s.now t.n q.i t.at q.total q.invariant.0 c.loop-i-test.false q.invariant.1
