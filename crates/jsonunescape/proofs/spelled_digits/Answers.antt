use native.Mathlib.Omega.{arith}
use Rattle.jsonunescape.proofs.Unescape.{run_inside, run_slash}
use Rattle.jsonunescape.proofs.Parts.{digits_run, digits_run_off, digits_escape, digits_escape_off, digits_end}
use Rattle.jsonunescape.proofs.spelled_digits.Goals as goal

pub returns-then-not-all_digits : goal.returns-then-not-all_digits
returns-then-not-all_digits c =
    digits_run_off c.loop-i.invariant c.next_backslash-e.ensures c.all_digits.ensures c.if-not-all_digits.true

pub returns-then-t-e : goal.returns-then-t-e
returns-then-t-e c =
    digits_end (digits_run c.loop-i.invariant c.next_backslash-e.ensures c.all_digits.ensures c.if-not-all_digits.false) c.if-t-e.true

pub returns-then-not-scalar_digits : goal.returns-then-not-scalar_digits
returns-then-not-scalar_digits c =
    let q = c.next_backslash-e.ensures in
    let h = c.if-t-e.false in
    let v = digits_run c.loop-i.invariant q c.all_digits.ensures c.if-not-all_digits.false in
    digits_escape_off v h (run_slash _ _ q h) c.escape_or_itself-x.ensures c.scalar_digits.ensures c.if-not-scalar_digits.true

pub loop-i-preserved : goal.loop-i-preserved
loop-i-preserved c =
    let q = c.next_backslash-e.ensures in
    let h = c.if-t-e.false in
    let v = digits_run c.loop-i.invariant q c.all_digits.ensures c.if-not-all_digits.false in
    digits_escape v h (run_slash _ _ q h) c.escape_or_itself-x.ensures c.scalar_digits.ensures c.if-not-scalar_digits.false

pub returns : goal.returns
returns c = digits_end c.loop-i.invariant c.loop-i-test.false

pub slice_bounds-all_digits-end : goal.slice_bounds-all_digits-end
slice_bounds-all_digits-end c = omega (arith, run_inside _ _ c.next_backslash-e.ensures (omega arith))
