-- Tags take little more in the strict form than here, so the sum fits.
use mathlib.Core.Path.{sym}
use native.Mathlib.Omega.{arith}
use Rattle.jsonfields.proofs.Values.{tags_room}
use Rattle.jsonfields.proofs.read_tags.Goals as goal

pub overflow_add-spot : goal.overflow_add-spot
overflow_add-spot c = omega (arith, tags_room _ _ (omega arith) (sym c.in_ok-t.ensures), c.varint_len.ensures.upper_bound)
