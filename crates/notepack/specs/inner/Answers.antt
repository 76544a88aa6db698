-- The meaning of the walk's answer. Assumes nothing.
use Rattle.std.specs.Prelude.{ℕ, List, Result, Ok, Err}
use Rattle.scan.specs.Choice.{Answer, shown, and_then}
use Rattle.event.specs.inner.Told.{told}
use Rattle.event.specs.declared.Refusal.{Refusal}
use Rattle.notepack.specs.declared.Head.{Head}
use Rattle.notepack.specs.declared.Tally.{Tally}
use Rattle.notepack.specs.Unpack.{packed_at}
use Rattle.notepack.specs.inner.Tally.{tally_of}

-- a whole packed event with the tally of its strict form, or the refusal
pub record Walked : Type 0 where
  pub head : Head
  pub tally : Tally

abbrev pub walk : Result (Head × Tally) Refusal → Answer Walked
walk (Ok x) = shown (record { head = x.0; tally = x.1 })
walk (Err r) = told r

-- the walk over a whole input
unfoldable pub walk_at : List ℕ → Answer Walked
walk_at s = and_then (packed_at s) λ p. shown (record { head = p.head; tally = tally_of s p })
