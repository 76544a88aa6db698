use Prim.Native.Nat.{◌+◌, ◌-◌}
use mathlib.Core.Path.{◌≡◌}
use native.Mathlib.Omega.{arith}
use Rattle.std.proofs.Math.Nat.{sub-zero}
use Rattle.buffer.proofs.Laws.{start, part, done, also}
use Rattle.jsonread.proofs.Copying.{tags_again_lem, tags_left_lem}
use Rattle.jsonread.proofs.put_json_tags.Goals as goal

pub loop-init : goal.loop-init
loop-init c = rw sub-zero start

pub loop-preserved : goal.loop-preserved
loop-preserved c =
    let q = c.loop in
    let one : c.args.count - (q.counter + 1) ≡ c.args.count - q.counter - 1 = omega arith in
    let t = tags_again_lem c.args.s.now (c.args.count - q.counter) q.i (omega arith) c.behind-first.ensures c.count_texts-n.ensures
    c.put_texts-copied.ensures.next_value c.behind-i.ensures in
    rw one (part (part (also t q.invariant) c.put_varint-o.ensures) c.put_texts-copied.ensures.wrote)

pub returns : goal.returns
returns c =
    let q = c.loop in
    done (also (tags_left_lem c.args.s.now (c.args.count - q.counter) q.i (omega arith)) q.invariant)
