use native.Mathlib.Omega.{arith}
use Rattle.buffer.proofs.Laws.{start, one, finish, same}
use Rattle.varint.proofs.UlebLaws.{uleb_last, uleb_more}
use Rattle.varint.proofs.put_varint.Goals as goal

pub loop-rest-init : goal.loop-rest-init
loop-rest-init c = start

pub loop-rest-preserved : goal.loop-rest-preserved
loop-rest-preserved c =
    let p = c in
    one (rw (uleb_more _ p.loop-rest-test.true) at p.loop-rest.invariant) c.put_byte-o.ensures

pub shape_of-out : goal.shape_of-out
shape_of-out c = omega (arith, same c.loop-rest.invariant)

pub returns : goal.returns
returns c =
    let p = c in
    finish (rw (uleb_last _ p.loop-rest-test.false) at p.loop-rest.invariant) c.put_byte.ensures
