-- `read_json` answers as rules 7 and 12.1 say: the reader's refusal, 11 with the length needed, or the length written;
-- and leaves the buffer so.
-- By the laws of the entry for each outcome of the first pass.
use Rattle.event.proofs.Handed.{handed_on}
use Rattle.jsonread.proofs.Whole.{json_refused, json_short, json_fitted}
use Rattle.jsonread.proofs.read_json.Goals as goal

pub returns-in_err-object : goal.returns-in_err-object
returns-in_err-object c =
    let h = json_refused _ c.args.out.now c.in_err-object.ensures in
    record { result_value = rw (handed_on _ c.from_residual.ensures) h.0; out_after = h.1 }

pub returns-then-out-object : goal.returns-then-out-object
returns-then-out-object c =
    let h = json_short _ c.args.out.now c.in_ok-object.ensures c.if-out-object.true in
    record { result_value = h.0; out_after = h.1 }

pub returns : goal.returns
returns c =
    let h = json_fitted _ c.args.out.now c.in_ok-object.ensures c.if-out-object.false c.put_event.ensures in
    record { result_value = h.0; out_after = h.1 }
