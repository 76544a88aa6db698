-- A refusal of the choice is the first input's, or where that is read the second's; it has one of the reader's numbers,
-- or of a versioned one 25.
-- By what is told of each.
use Prim.{Unit}
use Prim.Native.Nat.{ℕ}
use mathlib.Core.Path.{◌≡◌, refl}
use mathlib.Core.Bool.{Bool}
use mathlib.Core.List.{List}
use lib.ListN.{length}
use Rattle.scan.specs.Choice.{Answer, shown, refused}
use Rattle.event.specs.Event.{Event}
use Rattle.event.specs.inner.Tells.{Tells, refusal}
use Rattle.notepack.specs.Unpack.{unpack}
use Rattle.notepack.proofs.Telling.{unpack_tells}
use Rattle.rivals.specs.Rivals.{chooses}
use Rattle.versioned.specs.Versioned.{given}
use Rattle.versioned.specs.inner.Numbers.{given_numbers}
use Rattle.versioned.proofs.Telling.{given_tells}
use Rattle.versionedrivals.specs.Rivals.{rivals_given}
use Rattle.versionedrivals.specs.inner.Telling.{GivenTell, told, of_first, of_second}

pub rivals_given_tell : (s : List ℕ) (b : Bool) (t : List ℕ) (c : Bool) → GivenTell s b t c (rivals_given s b t c)
unfolding rivals_given
rivals_given_tell s b t c = by (given b unpack s) (given c unpack t) refl refl (given_tells b unpack s unpack_tells) (given_tells c unpack t unpack_tells)
  where
    Good : Bool → List ℕ → Answer Event → Type 0
    Good bare l = Tells (given_numbers bare) (length l) (λ (e : Event). Unit {0})

    by : (x y : Answer Event) → given b unpack s ≡ x → given c unpack t ≡ y → Good b s x → Good c t y → GivenTell s b t c (chooses x y)
    by (shown d) (shown e) h k v w = told
    by (shown d) (refused n p) h k v (refusal o q) = of_second h k o q
    by (refused n p) y h k (refusal o q) w = of_first h o q
