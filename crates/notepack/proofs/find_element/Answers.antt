-- `find_element` tells the value that its callee found, or the refusal.
-- The definition is that of the callee, by the law `element_place_lem`.
use mathlib.Core.Path.{sym}
use Rattle.event.proofs.Handed.{handed_on}
use Rattle.notepack.proofs.Viewing.{element_place_lem}
use Rattle.notepack.proofs.find_element.Goals as goal

pub returns : goal.returns
returns c =
    rw (sym (element_place_lem c.args.i c.args.j c.args.s.now), ← c.in_ok-p.ensures)

pub returns-in_err-p : goal.returns-in_err-p
returns-in_err-p c =
    rw (sym (element_place_lem c.args.i c.args.j c.args.s.now), ← c.in_err-p.ensures, handed_on _ c.from_residual.ensures)
