-- `is_strict` says yes where the input is as long as its strict form and has no hollow element, no where not, or the
-- reader's refusal.
-- By the laws of the strict question for each outcome of the walk; a slice's numbers are bytes.
use mathlib.Core.Path.{refl}
use Rattle.scan.proofs.AllLaws.{all_places}
use Rattle.event.proofs.Handed.{handed_on}
use Rattle.notepack.proofs.Again.{accepted}
use Rattle.strict.proofs.Laws.{strict_so, strict_not, strict_refused}
use Rattle.strict.proofs.is_strict.Goals as goal

pub returns-in_err-t : goal.returns-in_err-t
returns-in_err-t c = rw (handed_on _ c.from_residual.ensures) (strict_refused c.args.s.now _ _ c.in_err-t.ensures)

pub returns-then-t-s : goal.returns-then-t-s
returns-then-t-s c =
    let s = c.args.s.now in
    strict_so s _ (accepted s (all_places s (λ i. (c.type_inv.s i).fits)) _ _ c.in_ok-t.ensures refl) c.if-t-s.true

pub returns-else-t-s : goal.returns-else-t-s
returns-else-t-s c =
    let s = c.args.s.now in
    strict_not s _ (accepted s (all_places s (λ i. (c.type_inv.s i).fits)) _ _ c.in_ok-t.ensures refl) c.if-t-s.false
