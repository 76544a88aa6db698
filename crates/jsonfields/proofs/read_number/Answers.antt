-- A number takes a byte or more: its part is not empty.
use mathlib.Core.Path.{sym}
use native.Mathlib.Omega.{arith}
use Rattle.jsonfields.proofs.Values.{number_place, number_some}
use Rattle.jsonfields.proofs.read_number.Goals as goal

pub overflow_sub-next : goal.overflow_sub-next
overflow_sub-next c = omega (arith, number_place _ _ (sym c.in_ok-next.ensures))

pub spelled_number-requires : goal.spelled_number-requires
spelled_number-requires c = number_some _ _ (sym c.in_ok-next.ensures) c.part.ensures
