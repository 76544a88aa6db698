-- `write_pointer` answers as rules 18 and 12.1 say: the reader's refusal, 29, 11 with the length needed, or the length
-- written; and leaves the buffer so.
-- By the laws of the entry for each outcome of the walk and of the measure.
use Rattle.scan.proofs.AllLaws.{all_places}
use Rattle.event.proofs.Handed.{handed_on}
use Rattle.notepack.proofs.Again.{within}
use Rattle.pointwrite.proofs.Whole.{write_refused, write_long, write_short, write_fitted}
use Rattle.pointwrite.proofs.write_pointer.Goals as goal

pub returns-in_err-head : goal.returns-in_err-head
returns-in_err-head c =
    let f = write_refused c.args.s.now c.args.out.now _ _ c.in_err-head.ensures in
    record { result_value = rw (handed_on _ c.from_residual.ensures) f.0; out_after = f.1 }

pub invariant_of-packed : goal.invariant_of-packed
invariant_of-packed c =
    let s = c.args.s.now in
    let b = within s (all_places s (λ i. (c.type_inv.s i).fits)) c.in_ok-head.ensures in
    record { len_bound = b.0; tags_bound = b.1; time_bound = b.2 }

pub returns-then-len-gt-MAX_INPUT : goal.returns-then-len-gt-MAX_INPUT
returns-then-len-gt-MAX_INPUT c =
    let s = c.args.s.now in
    let f = write_long s c.args.out.now (all_places s (λ i. (c.type_inv.s i).fits)) c.in_ok-head.ensures c.data_len-data.ensures.value c.if-len-gt-MAX_INPUT.true in
    record { result_value = f.0; out_after = f.1 }

pub returns-then-out-len : goal.returns-then-out-len
returns-then-out-len c =
    let s = c.args.s.now in
    let f = write_short s c.args.out.now (all_places s (λ i. (c.type_inv.s i).fits)) c.in_ok-head.ensures c.data_len-data.ensures.value c.if-len-gt-MAX_INPUT.false c.if-out-len.true in
    record { result_value = f.0; out_after = f.1 }

pub returns : goal.returns
returns c =
    let s = c.args.s.now in
    let f = write_fitted s c.args.out.now (all_places s (λ i. (c.type_inv.s i).fits)) c.in_ok-head.ensures c.data_len-data.ensures.value c.if-len-gt-MAX_INPUT.false c.if-out-len.false c.put_form.ensures in
    record { result_value = f.0; out_after = f.1 }
