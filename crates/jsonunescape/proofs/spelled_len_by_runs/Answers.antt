use native.Mathlib.Omega.{arith}
use Rattle.jsonunescape.proofs.Unescape.{run_slash, measured_run, measured_escape, measured_all}
use Rattle.jsonunescape.proofs.spelled_len_by_runs.Goals as goal

pub returns-then-t-e-clause-value : goal.returns-then-t-e-clause-value
returns-then-t-e-clause-value c =
    measured_all c.if-t-e.true (measured_run _ c.next_backslash-e.ensures c.loop-i.invariant)

pub loop-i-preserved : goal.loop-i-preserved
loop-i-preserved c =
    let r = c.next_backslash-e.ensures in
    let h = c.if-t-e.false in
    measured_escape _ _ h (run_slash _ _ r h) c.escape_or_itself-x.ensures c.scalar_len-n.ensures.value (measured_run _ r c.loop-i.invariant)

pub returns-clause-value : goal.returns-clause-value
returns-clause-value c = measured_all c.loop-i-test.false c.loop-i.invariant

pub returns-then-t-e-clause-upper_bound : goal.returns-then-t-e-clause-upper_bound
returns-then-t-e-clause-upper_bound c =
    let m = measured_run _ c.next_backslash-e.ensures c.loop-i.invariant in
    omega (arith, m.small, m.inside)
