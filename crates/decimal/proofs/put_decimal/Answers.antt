use Prim.Native.Nat.{◌+◌, ◌-◌, ◌/◌, ◌%◌}
use mathlib.Core.Path.{refl}
use mathlib.Core.List.{[], append-nil}
use native.Mathlib.Omega.{arith}
use lib.ListN.{length-set}
use lib.Seq.{take_all}
use Rattle.buffer.proofs.Laws.{back}
use Rattle.decimal.specs.Decimal.{decimal}
use Rattle.decimal.proofs.Spelling.{decimal_last, decimal_more, length_last, length_more, length_u64}
use Rattle.decimal.proofs.put_decimal.Goals as goal

pub loop-rest-init : goal.loop-rest-init
loop-rest-init c = (omega arith, length_u64 c.args.n c.ranges.n.fits, refl, refl, append-nil _)

pub overflow_sub-k : goal.overflow_sub-k
overflow_sub-k c = omega (arith, length_more c.loop-rest.rest c.loop-rest-test.true)

pub bounds-digits-k : goal.bounds-digits-k
bounds-digits-k c = omega (arith, length_more c.loop-rest.rest c.loop-rest-test.true)

pub loop-rest-preserved : goal.loop-rest-preserved
loop-rest-preserved c =
    let q = c.loop-rest in
    let more = c.loop-rest-test.true in
    let m = length_more q.rest more in
    let filled = back (decimal (q.rest / 10)) (48 + q.rest % 10) q.k q.digits _ (omega arith) (omega arith) (rw (decimal_more _ more) at q.invariant.4) in
    (omega arith, omega arith, omega arith, simp length-set q.invariant.3, filled)

pub overflow_sub-k-2 : goal.overflow_sub-k-2
overflow_sub-k-2 c = omega (arith, length_last c.loop-rest.rest c.loop-rest-test.false)

pub bounds-digits-k-2 : goal.bounds-digits-k-2
bounds-digits-k-2 c = omega (arith, length_last c.loop-rest.rest c.loop-rest-test.false)

pub slice_bounds-put_bytes-end : goal.slice_bounds-put_bytes-end
slice_bounds-put_bytes-end c = let q = c.loop-rest in omega (arith, q.invariant.3, length-set q.digits (q.k - 1) (48 + q.rest))

pub returns : goal.returns
returns c =
    let q = c.loop-rest in
    let h = c.loop-rest-test.false in
    let n = c.args.n in
    let m = length_last q.rest h in
    let e = back [] _ q.k q.digits _ (omega arith) (omega arith) (rw (decimal_last _ h) at q.invariant.4) in
    rw (e, take_all (20 - (q.k - 1)) (decimal n) (omega arith)) at c.put_bytes.ensures
