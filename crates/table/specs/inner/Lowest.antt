-- Which slot a bad table's refusal names (rules 15): the lowest that is bad. Assumes nothing.
use Rattle.std.specs.Prelude.{ℕ, ◌<◌, ◌≡◌, List, get_or}
use Rattle.event.specs.Event.{Event}
use Rattle.archive.specs.Archive.{name_of}
use Rattle.table.specs.Table.{Holds, nothing, bad, good}

-- slot i is bad by itself, or it holds an event and another slot holds one with the same name
pub data Bad (l : List Holds) (i : ℕ) : Type 0 where
  alone : get_or l i nothing ≡ bad → Bad l i
  twin : (e d : Event) (j : ℕ) → (i ≡ j → ⊥) → get_or l i nothing ≡ good e → get_or l j nothing ≡ good d → name_of e ≡ name_of d → Bad l i

-- slot i is bad, and none below it is
pub record Lowest (l : List Holds) (i : ℕ) : Type 0 where
  pub is_bad : Bad l i
  pub lowest : (j : ℕ) → j < i → Bad l j → ⊥
