use Prim.Native.Nat.{◌+◌, ◌-◌}
use mathlib.Core.Path.{◌≡◌, ap}
use native.Mathlib.Omega.{arith}
use Rattle.std.proofs.Math.Nat.{sub-zero}
use Rattle.buffer.proofs.Laws.{start, part, done, also, same}
use Rattle.notepack.specs.Strict.{pack_tags}
use Rattle.notepack.proofs.Again.{tags_turn, tags_left_lem}
use Rattle.strict.proofs.Laws.{tag_more}
use Rattle.strict.proofs.copy_tags.Goals as goal

pub loop-init : goal.loop-init
loop-init c = rw sub-zero start

pub loop-preserved : goal.loop-preserved
loop-preserved c =
    let q = c.loop in
    let s = c.args.s.now in
    let t = tags_turn s (c.args.count - q.counter) q.i (omega arith) c.count_again-n.ensures.count_value c.count_again-n.ensures.next_value c.copy_elements.ensures.next_value in
    let one : c.args.count - (q.counter + 1) ≡ c.args.count - q.counter - 1 = omega arith in
    rw one (part (part (also (tag_more s _ _ t) q.invariant) c.put_varint-o.ensures) c.copy_elements.ensures.wrote)

pub shape_of-out : goal.shape_of-out
shape_of-out c = same c.loop.invariant

pub returns : goal.returns
returns c =
    let q = c.loop in
    done (also (ap pack_tags (tags_left_lem c.args.s.now (c.args.count - q.counter) q.i (omega arith))) q.invariant)
