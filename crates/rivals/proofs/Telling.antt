-- A refusal of the choice is the first input's, or where that is read the second's; it has one of the reader's numbers.
-- By what the reader tells of each.
use Prim.{Unit}
use Prim.Native.Nat.{ℕ}
use mathlib.Core.Path.{◌≡◌, refl}
use mathlib.Core.List.{List}
use lib.ListN.{length}
use Rattle.scan.specs.Choice.{Answer, shown, refused}
use Rattle.event.specs.Event.{Event}
use Rattle.event.specs.inner.Tells.{Tells, refusal}
use Rattle.notepack.specs.Unpack.{unpack}
use Rattle.notepack.specs.inner.Numbers.{packed_numbers}
use Rattle.notepack.proofs.Telling.{unpack_tells}
use Rattle.rivals.specs.Rivals.{chooses, rivals}
use Rattle.rivals.specs.inner.Telling.{RivalsTell, told, of_first, of_second}

pub rivals_tells : (s t : List ℕ) → RivalsTell s t (rivals s t)
unfolding rivals
rivals_tells s t = by (unpack s) (unpack t) refl refl (unpack_tells s) (unpack_tells t)
  where
    Good : List ℕ → Answer Event → Type 0
    Good l = Tells packed_numbers (length l) (λ (e : Event). Unit {0})

    by : (a b : Answer Event) → unpack s ≡ a → unpack t ≡ b → Good s a → Good t b → RivalsTell s t (chooses a b)
    by (shown d) (shown e) h k v w = told
    by (shown d) (refused n p) h k v (refusal o q) = of_second h k o q
    by (refused n p) b h k (refusal o q) w = of_first h o q
