-- `json_len` tells the length that the strict form of the event takes, or the refusal of the reading.
-- By the laws of the length for each outcome of the first pass.
use Rattle.event.proofs.Handed.{handed_on}
use Rattle.jsonread.proofs.Whole.{len_refused, len_shown}
use Rattle.jsonread.proofs.json_len.Goals as goal

pub returns-in_err-object : goal.returns-in_err-object
returns-in_err-object c = rw (handed_on _ c.from_residual.ensures) (len_refused _ c.in_err-object.ensures)

pub returns : goal.returns
returns c = len_shown _ c.in_ok-object.ensures
