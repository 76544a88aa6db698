-- `list_elements` answers as rules 4.12 to 4.15 say: the reader's refusal, or how many elements were told; and leaves
-- the buffer so. By the laws of the entry for each outcome of the read.
use Rattle.event.proofs.Handed.{handed_on}
use Rattle.elements.proofs.Entry.{told, not_told}
use Rattle.elements.proofs.list_elements.Goals as goal

pub returns-in_err-h : goal.returns-in_err-h
returns-in_err-h c =
    let a = c.args in
    let k = not_told a.bare a.first a.s.now a.out.now _ _ c.in_err-h.ensures in
    record { result_value = rw (handed_on _ c.from_residual.ensures) k.0; out_after = k.1 }

pub returns : goal.returns
returns c =
    let a = c.args in
    let k = told a.bare a.first a.s.now a.out.now _ c.in_ok-h.ensures c.list_tags-end.ensures in
    record { result_value = k.0; out_after = k.1 }
