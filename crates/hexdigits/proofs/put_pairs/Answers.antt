use Rattle.std.proofs.Common.{◌+◌, ◌*◌, ◌/◌, ◌≡◌, length, arith}
use native.Mathlib.Nat.{add_assoc}
use Rattle.buffer.proofs.Laws.{byte, also, done}
use Rattle.hexdigits.proofs.Pairs.{pairs_two, pairs_ended}
use Rattle.hexdigits.proofs.put_pairs.Goals as goal

pub loop-i-preserved : goal.loop-i-preserved
loop-i-preserved c =
    let q = c.loop-i in
    let next = byte (omega arith) (also (pairs_two c.args.v.now (2 * q.i) (omega arith)) q.invariant) in
    let k : 2 * q.i + 2 ≡ 2 * (q.i + 1) = omega arith in
    rw (add_assoc, k) at next

pub returns : goal.returns
returns c =
    let q = c.loop-i in
    let k : q.i ≡ length c.args.v.now / 2 = omega arith in
    rw k at (done (also (pairs_ended c.args.v.now (2 * q.i) (omega arith)) q.invariant))
