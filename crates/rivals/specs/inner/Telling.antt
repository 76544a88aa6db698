-- Whose refusal a choice between two inputs tells, and where it stands. `proofs/Telling` shows it. Assumes nothing.
use Rattle.std.specs.Prelude.{ℕ, ◌≤◌, ◌≡◌, true, List, length}
use Rattle.scan.specs.Choice.{shown, refused}
use Rattle.event.specs.Event.{Event}
use Rattle.event.specs.inner.Tells.{among}
use Rattle.notepack.specs.Unpack.{unpack}
use Rattle.notepack.specs.inner.Numbers.{packed_numbers}
use Rattle.rivals.specs.declared.Kept.{Kept}
use Rattle.rivals.specs.Rivals.{Chosen, chosen, first_refused, second_refused}

pub data RivalsTell (s t : List ℕ) : Chosen → Type 0 where
  -- which is kept
  told : {k : Kept} → RivalsTell s t (chosen k)
  -- the first input is refused: its refusal, at a place in the first or at its end
  of_first : {n p : ℕ} → unpack s ≡ refused n p → among packed_numbers n ≡ true → p ≤ length s → RivalsTell s t (first_refused n p)
  -- the first shows an event and the second is refused: the second's refusal, at a place in the second or at its end
  of_second : {d : Event} {n p : ℕ} → unpack s ≡ shown d → unpack t ≡ refused n p → among packed_numbers n ≡ true → p ≤ length t
      → RivalsTell s t (second_refused n p)
