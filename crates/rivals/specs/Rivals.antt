-- Which of two records is kept (rules 8). Assumes nothing.
use Rattle.std.specs.Prelude.{ℕ, List, ltb}
use Rattle.scan.specs.Choice.{pick, Answer, shown, refused}
use Rattle.scan.specs.Compare.{lower}
use Rattle.event.specs.Event.{Event}
use Rattle.notepack.specs.Unpack.{unpack}
use Rattle.keys.specs.Key.{key_of, same_key}
use Rattle.rivals.specs.declared.Kept.{Kept}
use Rattle.rivals.specs.declared.Kept.TheVariants.{First, Second, NotRivals}

-- by time and id: the later record; of two of one time the one with the lower id; of two with one id too the first
unfoldable pub keeps_by : (time₁ time₂ : ℕ) → (id₁ id₂ : List ℕ) → Kept
keeps_by t u a b = pick (ltb u t) First (pick (ltb t u) Second (pick (lower b a) Second First))

abbrev pub keeps : Event → Event → Kept
keeps d e = keeps_by d.created_at e.created_at d.id e.id

-- of two events: the one that is kept if their keys are the same
unfoldable pub kept_of : Event → Event → Kept
kept_of d e = pick (same_key (key_of d) (key_of e)) (keeps d e) NotRivals

-- what a choice between two inputs tells: which is kept, or the refusal of the one that is refused
pub data Chosen : Type 0 where
  chosen : Kept → Chosen
  first_refused : (number place : ℕ) → Chosen
  second_refused : (number place : ℕ) → Chosen

-- where both inputs are refused, the refusal is the first one's
abbrev pub chooses : Answer Event → Answer Event → Chosen
chooses (refused n p) b = first_refused n p
chooses (shown d) (refused n p) = second_refused n p
chooses (shown d) (shown e) = chosen (kept_of d e)

-- of two packed events
unfoldable pub rivals : List ℕ → List ℕ → Chosen
rivals s t = chooses (unpack s) (unpack t)
