use Prim.Native.Nat.{◌-◌, ◌/◌}
use mathlib.Core.Path.{◌≡◌}
use native.Mathlib.Omega.{arith}
use Rattle.scan.specs.Choice.{pick}
use Rattle.pointfields.specs.inner.Answers.{number_of}
use Rattle.pointread.proofs.Bad.{bad_before, fill_more}
use Rattle.pointread.proofs.Stops.fill_bad.Goals as goal
use Rattle.pointread.proofs.Stops.fill_bad.Goals.{then-not-is_good, else-not-is_good}

pub loop-i-preserved : goal.loop-i-preserved
loop-i-preserved c =
    let f = c.args.self.form in
    let q = c.loop-i in
    let v = number_of f.version in
    let n = c.data_size.result / 8 in
    let first : c.if-not-is_good.first ≡ pick c.is_good.result q.first (q.i - 1) = elim c.if-not-is_good.branch [
      | then-not-is_good w ↦ rw w.if-not-is_good.true w.first-is
      | else-not-is_good w ↦ rw w.if-not-is_good.false w.first-is
    ] in
    let e = bad_before v f.s.now n q.i (omega arith) (omega arith) q.invariant.1 c.is_good.ensures first in
    (fill_more v f.s.now n q.i _ (omega arith) (omega arith) e q.invariant.0, e)
