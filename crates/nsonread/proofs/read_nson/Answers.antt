-- `read_nson` answers as rules 6 and 12.1 say: the refusal, 11 with the length needed, or the length written; and
-- leaves the buffer so.
-- By the laws of the entry for each outcome of the walk.
use Rattle.event.proofs.Handed.{handed_on}
use Rattle.nsonread.proofs.Whole.{write_refused, write_short, write_fitted}
use Rattle.nsonread.proofs.read_nson.Goals as goal

pub returns-in_err-w : goal.returns-in_err-w
returns-in_err-w c =
    let r = write_refused c.args.s.now c.args.out.now c.in_err-w.ensures.result_value in
    rw (handed_on _ c.from_residual.ensures) (record { result_value = r.0; out_after = r.1 })

pub returns-then-out-w : goal.returns-then-out-w
returns-then-out-w c =
    let r = write_short c.args.s.now c.args.out.now c.in_ok-w.w c.in_ok-w.ensures.result_value c.if-out-w.true in
    record { result_value = r.0; out_after = r.1 }

pub returns : goal.returns
returns c =
    let r = write_fitted c.args.s.now c.args.out.now c.in_ok-w.w c.in_ok-w.ensures.result_value c.if-out-w.false c.put_strict_of.ensures in
    record { result_value = r.0; out_after = r.1 }
