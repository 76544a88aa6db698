use native.Mathlib.Omega.{arith}
use Rattle.jsonstring.specs.inner.Loose.{nothing}
use Rattle.jsonstring.proofs.ClashLaws.{quoting_start, quoting_next}
use Rattle.jsonstring.proofs.pass_quoted.Goals as goal

pub returns-then-at-eq0 : goal.returns-then-at-eq0
returns-then-at-eq0 c = nothing

pub loop-block-init : goal.loop-block-init
loop-block-init c = (omega arith, omega arith, quoting_start _ _ c.if-s-at-eq92.false)

pub loop-block-preserved : goal.loop-block-preserved
loop-block-preserved c =
    let inv = c.loop-block.invariant in
    let k = c.in-Some.ensures.cases in
    let r = quoting_next _ _ inv.2 inv.0 inv.1 k.enough k.same c.clashes.ensures (omega arith) in
    (omega arith, r.0, r.1)
