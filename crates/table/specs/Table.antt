-- What a lent table holds (rules 15): its entries, or 34 with the lowest slot that is bad. Assumes nothing.
use Rattle.std.specs.Prelude.{ℕ, suc, Bool, true, false, List, [], ◌∷◌, map, length, eqb}
use Rattle.scan.specs.Choice.{pick, Answer, shown, refused, and_then}
use Rattle.scan.specs.Compare.{same_bytes}
use Rattle.event.specs.Event.{Event}
use Rattle.notepack.specs.Strict.{pack}
use Rattle.notepack.specs.Unpack.{unpack}
use Rattle.slots.specs.declared.Slot.{Slot}
use Rattle.archive.specs.Archive.{Name, name_of, same_name, is_ephemeral, Entry, free, held}
use Rattle.table.specs.Cells.{Cell, empty, past, bytes, cells_from}

-- what a slot holds by itself
pub data Holds : Type 0 where
  nothing : Holds
  bad : Holds
  good : Event → Holds

-- bytes hold an event if they are its strict form and its kind is kept
abbrev pub held_by : List ℕ → Answer Event → Holds
held_by b (shown e) = pick (same_bytes b (pack e)) (pick (is_ephemeral e.kind) bad (good e)) bad
held_by b (refused n p) = bad

abbrev pub holds : Cell → Holds
holds empty = nothing
holds past = bad
holds (bytes b) = held_by b (unpack b)

-- whether a slot holds an event with that name
abbrev pub has_name : Name → List Holds → Bool
has_name n [] = false
has_name n (nothing ∷ l) = has_name n l
has_name n (bad ∷ l) = has_name n l
has_name n (good e ∷ l) = pick (same_name n (name_of e)) true (has_name n l)

-- The entries, or 34 at the lowest bad slot, the first being number i. Of two good slots with one name both are bad:
-- the lower is the one with a name that is there again.
abbrev pub entries_from : ℕ → List Holds → Answer (List Entry)
entries_from i [] = shown []
entries_from i (nothing ∷ l) = and_then (entries_from (suc i) l) λ s. shown (free ∷ s)
entries_from i (bad ∷ l) = refused 34 i
entries_from i (good e ∷ l) = pick (has_name (name_of e) l) (refused 34 i) (and_then (entries_from (suc i) l) λ s. shown (held e ∷ s))

-- what the slots hold, one by one
unfoldable pub slots_hold : List Slot → List ℕ → List Holds
slots_hold slots cells = map holds (cells_from cells 0 slots)

-- the entries of a lent table: 34 at 0 for another number of slots or bytes
unfoldable pub entries_of : List Slot → List ℕ → Answer (List Entry)
entries_of slots cells =
    pick (eqb (length slots) 64)
    (pick (eqb (length cells) 65_536) (entries_from 0 (slots_hold slots cells)) (refused 34 0))
    (refused 34 0)
