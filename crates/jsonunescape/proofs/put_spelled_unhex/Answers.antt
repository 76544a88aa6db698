use Rattle.std.proofs.Common.{arith, ap, sym, unwrap_or}
use Rattle.buffer.proofs.Laws.{start, part, also, done}
use Rattle.hexdigits.specs.Hex.{unhex}
use Rattle.jsonunescape.proofs.Unescape.{run_inside}
use Rattle.jsonunescape.proofs.Parts.{held_none, unhex_run, unhex_escape, unhex_end, with_half}
use Rattle.jsonunescape.proofs.put_spelled_unhex.Goals as goal

pub loop-i-init : goal.loop-i-init
loop-i-init c =
    let e = c.starting-half.ensures in
    rw (e.0, e.1) (also (ap unhex (sym (held_none _))) start)

pub loop-i-preserved : goal.loop-i-preserved
loop-i-preserved c =
    let a = c.put_digits-half.ensures in
    let d = c.put_scalar-half.ensures in
    let h = unwrap_or c.loop-i.half.value 16 in
    let k = unwrap_or c.put_digits-half.result.value 16 in
    let q = c.next_backslash-e.ensures in
    let left = with_half _ _ _ a.value_value (part (also (unhex_run _ _ h q) c.loop-i.invariant) a.wrote) in
    with_half _ _ _ d.value_value (part (also (unhex_escape _ _ _ k q c.if-t-e.false c.escape_or_itself-x.ensures) left) d.wrote)

pub returns : goal.returns
returns c = rw c.end-2.ensures (done (also (unhex_end _ _ _ c.loop-i-test.false) c.loop-i.invariant))

pub returns-then-t-e : goal.returns-then-t-e
returns-then-t-e c =
    let h = unwrap_or c.loop-i.half.value 16 in
    let q = c.next_backslash-e.ensures in
    rw c.end.ensures (done (also (unhex_end _ _ _ c.if-t-e.true) (part (also (unhex_run _ _ h q) c.loop-i.invariant) c.put_digits-half.ensures.wrote)))

pub slice_bounds-put_digits-end : goal.slice_bounds-put_digits-end
slice_bounds-put_digits-end c = omega (arith, run_inside _ _ c.next_backslash-e.ensures (omega arith))
