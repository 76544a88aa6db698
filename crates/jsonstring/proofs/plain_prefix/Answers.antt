use Rattle.std.proofs.Common.{◌≡◌, arith}
use Rattle.scan.specs.Choice.{pick}
use Rattle.scan.proofs.BlockLaws.{stop_within, stop_more}
use Rattle.jsonstring.specs.inner.Plain.{is_special}
use Rattle.jsonstring.proofs.plain_prefix.Goals.{then-is_special, else-is_special}
use Rattle.jsonstring.proofs.plain_prefix.Goals as goal

pub loop-i-init : goal.loop-i-init
loop-i-init c = (omega arith, omega (arith, stop_within is_special c.args.block.now))

pub loop-i-preserved : goal.loop-i-preserved
loop-i-preserved c =
    let q = c.loop-i in
    let s = c.args.block.now in
    let m = c.min-m.ensures in
    let k : c.if-is_special.stop ≡ pick c.is_special.result q.i 32 =
    elim c.if-is_special.branch [ then-is_special w ↦ rw w.if-is_special.true w.stop-is | else-is_special w ↦ rw w.if-is_special.false w.stop-is ] in
    (omega arith, stop_more is_special s q.i 32 q.m q.invariant.1 (omega arith) (omega arith) c.is_special.ensures k (omega arith))
