use Prim.Native.Nat.{◌+◌, ◌-◌}
use mathlib.Core.Path.{◌≡◌, refl, sym, ap, ◌∙◌}
use native.Mathlib.Omega.{arith}
use Rattle.std.proofs.Math.Nat.{sub-zero}
use Rattle.buffer.proofs.Laws.{start, part, done, also, same}
use Rattle.notepack.proofs.Again.{texts_turn, texts_left}
use Rattle.elements.specs.Elements.{rows}
use Rattle.elements.proofs.Again.{again_turn, again_left}
use Rattle.elements.proofs.put_rows.Goals as goal

pub loop-init : goal.loop-init
loop-init c = rw sub-zero (start, refl)

pub loop-preserved : goal.loop-preserved
loop-preserved c =
    let q = c.loop in
    let a = c.args in
    let left = a.count - q.counter in
    let told = c.part_again-next.ensures in
    let e = again_turn a.s.now a.tag left q.i (omega arith) told.part_value told.next_value in
    let t = texts_turn a.s.now left q.i (omega arith) told.part_value told.next_value in
    let one : a.count - (q.counter + 1) ≡ a.count - q.counter - 1 = omega arith in
    rw one (part (also (ap rows e) q.invariant.0) c.put_row-o.ensures, q.invariant.1 ∙ t.1)

pub shape_of-out : goal.shape_of-out
shape_of-out c = same c.loop.invariant.0

pub returns : goal.returns
returns c =
    let q = c.loop in
    let a = c.args in
    let left = a.count - q.counter in
    record {
      wrote = done (also (ap rows (again_left a.s.now a.tag left q.i (omega arith))) q.invariant.0);
      next_value = sym (q.invariant.1 ∙ (texts_left a.s.now left q.i (omega arith)).1);
    }
