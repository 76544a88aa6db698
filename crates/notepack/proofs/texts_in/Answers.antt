-- `texts_in` tells the value that its callee found, or the refusal.
-- The definition is that of the callee, by the law `tag_start_lem`.
use mathlib.Core.Path.{sym}
use Rattle.event.proofs.Handed.{handed_on}
use Rattle.notepack.proofs.Viewing.{tag_start_lem}
use Rattle.notepack.proofs.texts_in.Goals as goal

pub returns : goal.returns
returns c = rw (sym (tag_start_lem c.args.i c.args.s.now), ← c.in_ok-n.ensures)

pub returns-in_err-n : goal.returns-in_err-n
returns-in_err-n c =
    rw (sym (tag_start_lem c.args.i c.args.s.now), ← c.in_err-n.ensures, handed_on _ c.from_residual.ensures)
