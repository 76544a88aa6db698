use Rattle.std.proofs.Common.{◌≡◌, ◌-◌, arith}
use Rattle.buffer.proofs.Laws.{start, one, done, also}
use Rattle.littleendian.proofs.Laws.{low_more, low_none}
use Rattle.littleendian.proofs.put_number.Goals as goal

pub loop-init : goal.loop-init
loop-init c = let e : c.args.n - 0 ≡ c.args.n = omega arith in rw e start

pub loop-preserved : goal.loop-preserved
loop-preserved c =
    let q = c.loop in
    one (also (low_more c.args.n q.counter q.rest (omega arith)) q.invariant) c.put_byte-o.ensures

pub returns : goal.returns
returns c =
    let q = c.loop in
    done (also (low_none c.args.n q.counter q.rest (omega arith)) q.invariant)
