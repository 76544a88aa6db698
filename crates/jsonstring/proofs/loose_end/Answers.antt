use native.Mathlib.Omega.{arith}
use Rattle.jsonstring.specs.inner.Loose.{nothing}
use Rattle.jsonstring.proofs.LooseLaws.{then, then_bare, then_letter, then_escape, loose_inside}
use Rattle.jsonstring.proofs.loose_end.Goals as goal

pub loop-i-init : goal.loop-i-init
loop-i-init c = nothing

pub loop-i-2-init : goal.loop-i-2-init
loop-i-2-init c =
    let p = c.pass_quoted-i.ensures in
    (omega (arith, loose_inside (omega arith) p), then c.loop-i.invariant p)

pub loop-i-2-preserved-in-Some : goal.loop-i-2-preserved-in-Some
loop-i-2-preserved-in-Some c =
    let v = c.loop-i-2.invariant in
    let b = c.in-Some.ensures in
    (v.0, then_letter _ _ _ _ c.byte_at.ensures b.value b.nonzero v.1 (omega arith) c.if-b-ne92.false)

pub loop-i-2-preserved : goal.loop-i-2-preserved
loop-i-2-preserved c =
    let v = c.loop-i-2.invariant in
    (v.0, then_escape v.1 (omega arith) c.if-b-ne92.false c.in-Some-escape_at.ensures.value (λ z. omega (arith, c.in-Some-escape_at.ensures.lower_bound)))

pub loop-i-2-preserved-then-b-ne92 : goal.loop-i-2-preserved-then-b-ne92
loop-i-2-preserved-then-b-ne92 c =
    let v = c.loop-i-2.invariant in
    (v.0, then_bare v.1 (omega arith) c.if-b-eq34.false c.if-b-lt32.false c.if-b-ne92.true)
