-- The strict question refuses as the reader does: one of its numbers, at a place in the input or at its end.
use Prim.{Unit, tt}
use Prim.Native.Nat.{ℕ}
use mathlib.Core.Bool.{Bool}
use mathlib.Core.List.{List}
use lib.ListN.{length}
use Rattle.event.specs.inner.Tells.{Tells, value}
use Rattle.event.proofs.TellsLaws.{then_tells}
use Rattle.notepack.specs.inner.Numbers.{packed_numbers}
use Rattle.notepack.proofs.Telling.{unpack_tells}
use Rattle.strict.specs.Strict.{strict}

pub strict_tells : (s : List ℕ) → Tells packed_numbers (length s) (λ (b : Bool). Unit {0}) (strict s)
unfolding strict
strict_tells s = then_tells _ (unpack_tells s) (λ e _. value tt)
