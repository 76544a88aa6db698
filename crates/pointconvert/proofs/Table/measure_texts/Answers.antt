use Rattle.pointconvert.proofs.Turns.{texts_fit}
use Rattle.pointconvert.proofs.Table.measure_texts.Goals as goal

pub returns : goal.returns
returns c =
    let t = c.args.self.now in
    let q = c.loop-i in
    texts_fit t.s.now t.n q.i t.at q.total q.invariant.0 c.loop-i-test.false q.invariant.1
