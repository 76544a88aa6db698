-- Emptying a lent table (rules 15): its answer, and every slot and byte after it. Assumes nothing.
use Rattle.std.specs.Prelude.{ℕ, Bool, false, List, length, replicate, eqb}
use Rattle.scan.specs.Choice.{pick, Answer, shown, refused}
use Rattle.slots.specs.declared.Slot.{Slot}
use Rattle.slots.specs.Slots.{free_slot}

-- whether so many slots and bytes are a table
unfoldable pub is_table : ℕ → ℕ → Bool
is_table n m = pick (eqb n 64) (eqb m 65_536) false

abbrev pub emptying : Bool → Answer ℕ
emptying t = pick t (shown 0) (refused 34 0)

-- 34 at 0 for another number of slots or bytes
abbrev pub emptied : List Slot → List ℕ → Answer ℕ
emptied slots cells = emptying (is_table (length slots) (length cells))

-- the slots and the cells after it; a refusal leaves both as they were
abbrev pub slots_emptied : Answer ℕ → List Slot → List Slot
slots_emptied (shown n) l = replicate (length l) free_slot
slots_emptied (refused n p) l = l

abbrev pub cells_emptied : Answer ℕ → List ℕ → List ℕ
cells_emptied (shown n) d = replicate (length d) 0
cells_emptied (refused n p) d = d
