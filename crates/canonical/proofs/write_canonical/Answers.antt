-- `write_canonical` answers as rules 5 and 12.1 say: the reader's refusal, 11 with the length needed, or the length
-- written; and leaves the buffer so.
-- By the laws of the entry for each outcome of the walk; where there is room for three times the input, nothing is
-- measured.
use native.Mathlib.Omega.{arith}
use Rattle.scan.proofs.AllLaws.{all_places}
use Rattle.event.proofs.Handed.{handed_on}
use Rattle.notepack.proofs.Again.{within}
use Rattle.canonical.proofs.Whole.{write_refused, write_short, write_fitted, write_wide}
use Rattle.canonical.proofs.write_canonical.Goals as goal

pub overflow_mul-s : goal.overflow_mul-s
overflow_mul-s c = let s = c.args.s.now in omega (arith, within s (all_places s (λ i. (c.type_inv.s i).fits)) c.in_ok-head.ensures)

pub invariant_of-packed : goal.invariant_of-packed
invariant_of-packed c =
    let s = c.args.s.now in
    let b = within s (all_places s (λ i. (c.type_inv.s i).fits)) c.in_ok-head.ensures in
    record { len_bound = b.0; tags_bound = b.1; time_bound = b.2 }

pub returns-in_err-head : goal.returns-in_err-head
returns-in_err-head c =
    let f = write_refused c.args.s.now c.args.out.now _ _ c.in_err-head.ensures in
    rw (handed_on _ c.from_residual.ensures) (record { result_value = f.0; out_after = f.1 })

pub returns-then-s-out : goal.returns-then-s-out
returns-then-s-out c =
    let s = c.args.s.now in
    let f = write_wide s c.args.out.now (all_places s (λ i. (c.type_inv.s i).fits)) c.in_ok-head.ensures c.if-s-out.true c.put_canonical.ensures in
    record { result_value = f.0; out_after = f.1 }

pub returns-then-out-need : goal.returns-then-out-need
returns-then-out-need c =
    let s = c.args.s.now in
    let f = write_short s c.args.out.now (all_places s (λ i. (c.type_inv.s i).fits)) c.in_ok-head.ensures c.canonical_len-need.ensures c.if-out-need.true in
    record { result_value = f.0; out_after = f.1 }

pub returns : goal.returns
returns c =
    let s = c.args.s.now in
    let f = write_fitted s c.args.out.now (all_places s (λ i. (c.type_inv.s i).fits)) c.in_ok-head.ensures c.canonical_len-need.ensures c.if-out-need.false c.put_canonical-2.ensures in
    record { result_value = f.0; out_after = f.1 }
