-- `write_event` answers 29, 11 with the length needed, or the length written; and leaves the buffer so.
-- By the laws of the answer for each outcome of the measure.
use Rattle.pointconvert.proofs.Event.{short_value, short_after, fitted_value, fitted_after}
use Rattle.pointconvert.proofs.Form.write_event.Goals as goal

pub returns-then-out-n : goal.returns-then-out-n
returns-then-out-n c =
    let l = c.if-out-n.true in
    let n = c.in-Some.ensures in
    record { result_value = short_value _ _ l n; out_after = short_after _ _ l n }

pub returns : goal.returns
returns c =
    let l = c.if-out-n.false in
    let n = c.in-Some.ensures in
    let w = c.put_event.ensures in
    record { result_value = fitted_value _ _ w l n; out_after = fitted_after _ _ w l n }
