-- `find_tag` reads the form, then the pointer to tag i, which stands within the input.
use mathlib.Core.Path.{sym}
use native.Mathlib.Omega.{arith}
use Rattle.pointread.proofs.Elements.{pointer_fits}
use Rattle.pointread.proofs.find_tag.Goals as goal

pub overflow_mul-i : goal.overflow_mul-i
overflow_mul-i c = omega (arith, pointer_fits c.args.s.now c.args.i (sym c.in_ok-o.ensures) c.if-i-o.true)

pub overflow_add-tags : goal.overflow_add-tags
overflow_add-tags c = rw c.named_at-tags.ensures (omega (arith, pointer_fits c.args.s.now c.args.i (sym c.in_ok-o.ensures) c.if-i-o.true))
