-- `read`: the fields in front of the tags, then the tags.
-- Each way out is a law of `Forms`, by what its calls answered.
use mathlib.Core.Path.{sym}
use Rattle.event.proofs.Handed.{handed_on}
use Rattle.pointfields.specs.inner.Answers.{number_of}
use Rattle.pointread.proofs.Forms.{walk_bad, walk_fine}
use Rattle.pointread.proofs.Form.read.Goals as goal

pub returns-in_err-check_walk : goal.returns-in_err-check_walk
returns-in_err-check_walk c =
    let f = c.args.self in
    rw (handed_on _ c.from_residual-in_err-check_walk.ensures)
    (sym (walk_bad (number_of f.version) f.s.now f.header (sym c.in_ok-o.ensures) (rw c.named_at.ensures at (sym c.in_err-check_walk.ensures))))

pub returns : goal.returns
returns c =
    let f = c.args.self in
    sym (walk_fine (number_of f.version) f.s.now f.header (sym c.in_ok-o.ensures) (rw c.named_at.ensures at (sym c.in_ok-check_walk.ensures)))
