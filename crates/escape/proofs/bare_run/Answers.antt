use Rattle.std.proofs.Common.{◌≡◌, arith, length}
use Rattle.scan.specs.Choice.{pick}
use Rattle.scan.proofs.BlockLaws.{stop_within, stop_more}
use Rattle.escape.specs.inner.Block.{is_escaped}
use Rattle.escape.proofs.bare_run.Goals.{then-is_escaped, else-is_escaped}
use Rattle.escape.proofs.bare_run.Goals as goal

pub loop-i-init : goal.loop-i-init
loop-i-init c = let a = c.args in (omega arith, omega (arith, stop_within (is_escaped a.k) a.block.now))

pub loop-i-preserved : goal.loop-i-preserved
loop-i-preserved c =
    let q = c.loop-i in
    let s = c.args.block.now in
    let m = c.min-m.ensures in
    let k : c.if-is_escaped.stop ≡ pick c.is_escaped.result q.i (length s) =
    elim c.if-is_escaped.branch [ then-is_escaped w ↦ rw w.if-is_escaped.true w.stop-is | else-is_escaped w ↦ rw w.if-is_escaped.false w.stop-is ] in
    (omega arith, stop_more (is_escaped c.args.k) s q.i (length s) q.m q.invariant.1 c.loop-i-test.true q.invariant.0 c.is_escaped.ensures k (omega arith))
