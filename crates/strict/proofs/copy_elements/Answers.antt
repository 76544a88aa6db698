use Prim.Native.Nat.{◌+◌, ◌-◌}
use mathlib.Core.Path.{◌≡◌, refl, sym, ap, ◌∙◌}
use native.Mathlib.Omega.{arith}
use Rattle.std.proofs.Math.Nat.{sub-zero}
use Rattle.buffer.proofs.Laws.{start, part, done, also, same}
use Rattle.notepack.specs.Strict.{pack_elements}
use Rattle.notepack.proofs.Again.{texts_turn, texts_left}
use Rattle.strict.proofs.copy_elements.Goals as goal

pub loop-init : goal.loop-init
loop-init c = rw sub-zero (start, refl)

pub loop-preserved : goal.loop-preserved
loop-preserved c =
    let q = c.loop in
    let t = texts_turn c.args.s.now (c.args.count - q.counter) q.i (omega arith) c.part_again-next.ensures.part_value c.part_again-next.ensures.next_value in
    let one : c.args.count - (q.counter + 1) ≡ c.args.count - q.counter - 1 = omega arith in
    rw one (part (also (ap pack_elements t.0) q.invariant.0) c.put_packed_part-o.ensures, q.invariant.1 ∙ t.1)

pub shape_of-out : goal.shape_of-out
shape_of-out c = same c.loop.invariant.0

pub returns : goal.returns
returns c =
    let q = c.loop in
    let t = texts_left c.args.s.now (c.args.count - q.counter) q.i (omega arith) in
    record { wrote = done (also (ap pack_elements t.0) q.invariant.0); next_value = sym (q.invariant.1 ∙ t.1) }
