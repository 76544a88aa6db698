-- `spelled_number` tells the number that a part spells, if it is digits alone.
-- By the laws of `Values` for each answer of the digits.
use mathlib.Core.Path.{◌≡◌, ap, sym, ◌∙◌}
use Rattle.std.specs.Prelude.{Err}
use Rattle.decimal.specs.declared.DecimalError.TheVariants.{NoDigit}
use Rattle.decimal.specs.inner.Run.{decimal_read}
use Rattle.jsonfields.proofs.Values.{whole_number, whole_over, whole_number_on, whole_over_on, whole_none}
use Rattle.jsonfields.proofs.spelled_number.Goals as goal
use Rattle.jsonfields.proofs.spelled_number.Goals.{in_default-via-in-Ok+else-end-l, in_default-via-in-Err-Over+else-end-l-2, in_default-via-in-Err+in_default}

pub returns-in-Ok : goal.returns-in-Ok
returns-in-Ok c next = whole_number _ _ _ _ next c.in-Ok.ensures c.if-end-l.true

pub returns-in-Err-Over : goal.returns-in-Err-Over
returns-in-Err-Over c next = whole_over _ _ _ _ next (rw c.in-Err-Over.field-0-is at c.in-Err-Over.ensures) c.if-end-l-2.true

pub returns-in_default : goal.returns-in_default
returns-in_default c next =
    rw c.not_allowed.ensures
    (elim c.in_default.branch [
      | in_default-via-in-Ok+else-end-l w ↦ whole_number_on _ _ _ _ next w.in-Ok.ensures w.if-end-l.false
      | in_default-via-in-Err-Over+else-end-l-2 w ↦ whole_over_on _ _ _ _ next (rw w.in-Err-Over.field-0-is at w.in-Err-Over.ensures) w.if-end-l-2.false
      | in_default-via-in-Err+in_default w ↦ (let z : w.in_default.field-0 ≡ NoDigit = cc in whole_none _ _ _ _ next (ap decimal_read (sym (w.in_default.is ∙ ap Err z)) ∙ c.read_decimal.ensures) c.requires)
    ])
