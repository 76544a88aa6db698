-- Whose refusal a choice between two inputs tells, and where it stands. `proofs/Telling` shows it. Assumes nothing.
use Rattle.std.specs.Prelude.{ℕ, ◌≤◌, ◌≡◌, Bool, true, List, length}
use Rattle.scan.specs.Choice.{shown, refused}
use Rattle.event.specs.Event.{Event}
use Rattle.event.specs.inner.Tells.{among}
use Rattle.notepack.specs.Unpack.{unpack}
use Rattle.rivals.specs.declared.Kept.{Kept}
use Rattle.rivals.specs.Rivals.{Chosen, chosen, first_refused, second_refused}
use Rattle.versioned.specs.Versioned.{given}
use Rattle.versioned.specs.inner.Numbers.{given_numbers}

pub data GivenTell (s : List ℕ) (b : Bool) (t : List ℕ) (c : Bool) : Chosen → Type 0 where
  -- which is kept
  told : {k : Kept} → GivenTell s b t c (chosen k)
  -- the first input is refused: its refusal, at a place in the first or at its end
  of_first : {n p : ℕ} → given b unpack s ≡ refused n p → among (given_numbers b) n ≡ true → p ≤ length s → GivenTell s b t c (first_refused n p)
  -- the first shows an event and the second is refused: the second's refusal, at a place in the second or at its end
  of_second : {d : Event} {n p : ℕ} → given b unpack s ≡ shown d → given c unpack t ≡ refused n p → among (given_numbers c) n ≡ true → p ≤ length t
      → GivenTell s b t c (second_refused n p)
