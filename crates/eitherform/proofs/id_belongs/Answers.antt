-- `id_belongs` answers the id question of an input of either form.
-- By the two laws of `Asking`: the start is refused, or the bare bytes were asked.
use mathlib.Core.Path.{sym, ap, ◌∙◌}
use Rattle.identity.specs.Identity.{belongs}
use Rattle.identity.proofs.Telling.{belongs_tells}
use Rattle.event.proofs.Handed.{handed_on}
use Rattle.eitherform.proofs.Asking.{none_told, some_told}
use Rattle.eitherform.proofs.id_belongs.Goals as goal

pub returns-in_err-k : goal.returns-in_err-k
returns-in_err-k c = rw (handed_on _ c.from_residual.ensures) (none_told belongs c.args.bare c.args.s.now (sym c.in_err-k.ensures))

pub returns : goal.returns
returns c =
    let a = c.args in
    c.moved_answer.ensures ∙ some_told belongs a.bare a.s.now belongs_tells (sym c.in_ok-k.ensures) c.from.ensures c.id_belongs.ensures
