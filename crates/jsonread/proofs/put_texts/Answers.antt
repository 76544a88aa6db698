use Prim.Native.Nat.{◌+◌, ◌-◌}
use mathlib.Core.Path.{◌≡◌, refl, sym, ap, ◌∙◌}
use native.Mathlib.Omega.{arith}
use Rattle.std.proofs.Math.Nat.{sub-zero}
use Rattle.buffer.proofs.Laws.{start, part, done, also}
use Rattle.jsonread.specs.inner.Copy.{texts_text, json_texts_end}
use Rattle.jsonread.proofs.Copying.{texts_turn, texts_stop, texts_left, next_place, said_text}
use Rattle.jsonread.proofs.put_texts.Goals as goal

pub loop-init : goal.loop-init
loop-init c = (rw sub-zero start, rw sub-zero refl)

-- nothing is read: what is left has no text
pub returns-in_default : goal.returns-in_default
returns-in_default c =
    let q = c.loop in
    let t = texts_stop c.args.s.now (c.args.count - q.counter) q.i (omega arith) (sym c.in_default.ensures.result_value) in
    record { wrote = done (also t.0 q.invariant.0); next_value = sym (q.invariant.1 ∙ t.1) }

pub loop-preserved : goal.loop-preserved
loop-preserved c =
    let q = c.loop in
    let s = c.args.s.now in
    let left = c.args.count - q.counter in
    let one : c.args.count - (q.counter + 1) ≡ c.args.count - q.counter - 1 = omega arith in
    let t = texts_turn s left q.i (omega arith) (sym c.in-Ok.ensures.result_value) in
    let n = next_place s _ c.skip_space.ensures c.behind-i.ensures in
    let w = rw (said_text s _ _ c.in-Ok.ensures.plain_text) at c.put_text-o.ensures in
    rw one (
      also (ap (texts_text (left - 1) s) n) (part (also t.0 q.invariant.0) w),
      q.invariant.1 ∙ t.1 ∙ ap (json_texts_end (left - 1) s) n,
    )

pub returns : goal.returns
returns c =
    let q = c.loop in
    let t = texts_left c.args.s.now (c.args.count - q.counter) q.i (omega arith) in
    record { wrote = done (also t.0 q.invariant.0); next_value = sym (q.invariant.1 ∙ t.1) }
