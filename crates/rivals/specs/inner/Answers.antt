-- The meaning of the code's answers, case by case. Assumes nothing.
use Rattle.std.specs.Prelude.{ℕ, List, [], take, Result, Ok, Err}
use Rattle.event.specs.inner.Told.{number_of}
use Rattle.scan.specs.Choice.{pick}
use Rattle.notepack.specs.declared.Head.{Head}
use Rattle.keys.specs.Key.{same_key}
use Rattle.keys.specs.inner.Place.{key_at, key_there}
use Rattle.rivals.specs.declared.Kept.{Kept}
use Rattle.rivals.specs.declared.Kept.TheVariants.{First, Second, NotRivals}
use Rattle.rivals.specs.declared.RefusedInput.{RefusedInput}
use Rattle.rivals.specs.declared.RefusedInput.TheVariants as input
use Rattle.rivals.specs.Rivals.{keeps_by, Chosen, chosen, first_refused, second_refused}

-- which is kept, or whose refusal
abbrev pub rivals_read : Result Kept RefusedInput → Chosen
rivals_read (Ok k) = chosen k
rivals_read (Err (input.First r)) = first_refused (number_of r.reason) r.place
rivals_read (Err (input.Second r)) = second_refused (number_of r.reason) r.place

-- of two packed events whose numbers were read: by the keys that stand in their bytes
unfoldable pub kept_there : List ℕ → Head → List ℕ → Head → Kept
kept_there s h t k =
    pick (same_key (key_there s (key_at s h)) (key_there t (key_at t k))) (keeps_by h.created_at k.created_at (take 32 s) (take 32 t)) NotRivals

-- the bytes of the record that is kept, and nothing where none is
abbrev pub kept_bytes : List ℕ → List ℕ → Chosen → List ℕ
kept_bytes s t (chosen First) = s
kept_bytes s t (chosen Second) = t
kept_bytes s t (chosen NotRivals) = []
kept_bytes s t (first_refused n p) = []
kept_bytes s t (second_refused n p) = []
