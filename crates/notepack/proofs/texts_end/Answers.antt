use Prim.Native.Nat.{◌+◌, ◌-◌}
use mathlib.Core.Path.{◌≡◌, refl, sym, ◌∙◌}
use native.Mathlib.Omega.{arith}
use Rattle.std.proofs.Math.Nat.{sub-zero}
use Rattle.notepack.proofs.Again.{texts_turn, texts_left}
use Rattle.notepack.proofs.texts_end.Goals as goal

pub loop-init : goal.loop-init
loop-init c = rw sub-zero refl

pub loop-preserved : goal.loop-preserved
loop-preserved c =
    let q = c.loop in
    let one : c.args.n - (q.counter + 1) ≡ c.args.n - q.counter - 1 = omega arith in
    rw one (q.invariant ∙ (texts_turn c.args.s.now (c.args.n - q.counter) q.i (omega arith) c.part_again.ensures.part_value c.part_again.ensures.next_value).1)

pub returns : goal.returns
returns c = let q = c.loop in sym (q.invariant ∙ (texts_left c.args.s.now (c.args.n - q.counter) q.i (omega arith)).1)
