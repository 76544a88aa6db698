use Rattle.std.proofs.Math.Nat.{sub-zero}
use native.Mathlib.Omega.{arith}
use mathlib.Core.Path.{◌≡◌}
use Prim.Native.Nat.{◌+◌, ◌-◌}
use Rattle.buffer.proofs.Laws.{start, part, done, also, same}
use Rattle.escape.specs.inner.Which.{byte_of}
use Rattle.jsontags.proofs.Turns.{arrays_turn, arrays_left}
use Rattle.jsontags.proofs.put_arrays.Goals as goal

pub loop-n-init : goal.loop-n-init
loop-n-init c = rw sub-zero start

pub loop-n-preserved : goal.loop-n-preserved
loop-n-preserved c =
    let q = c.loop-n in
    let a = c.args in
    let r = c.count_again-texts.ensures in
    let t = arrays_turn (byte_of a.k) a.s.now (c.args.count - q.n) q.i (omega arith) r.count_value r.next_value c.put_strings.ensures.next_value in
    let one : c.args.count - (q.n + 1) ≡ c.args.count - q.n - 1 = omega arith in
    rw one (part (part (part (part (also t q.invariant) c.put_byte-o.ensures) c.put_strings.ensures.wrote) c.put_byte-o-in-loop-n.ensures) c.put_comma-o.ensures)

pub shape_of-out : goal.shape_of-out
shape_of-out c = same c.loop-n.invariant

pub returns : goal.returns
returns c =
    let q = c.loop-n in
    let a = c.args in
    done (also (arrays_left (byte_of a.k) a.s.now (c.args.count - q.n) q.i (omega arith)) q.invariant)
