-- `texts_in` tells the number of texts in a tag of an input of either form.
-- By the laws of `Viewing` for each way it can end.
use mathlib.Core.Path.{sym}
use Rattle.event.proofs.Handed.{handed_on}
use Rattle.versioned.proofs.Viewing.{texts_none, texts_start}
use Rattle.versioned.proofs.texts_in.Goals as goal

pub returns-in_err-k : goal.returns-in_err-k
returns-in_err-k c =
    let a = c.args in
    rw (handed_on _ c.from_residual.ensures) (sym (texts_none a.bare a.s.now a.i (sym c.in_err-k.ensures)))

pub returns : goal.returns
returns c =
    let a = c.args in
    rw (c.moved_answer.ensures, texts_start a.bare a.s.now (sym c.in_ok-k.ensures) a.i, ← c.from.ensures, ← c.texts_in.ensures)
