-- The slots of a table with what one of them becomes, if one changes. Assumes nothing.
use Rattle.std.specs.Prelude.{ℕ, Option, Some, None, List, set}
use Rattle.slots.specs.declared.Slot.{Slot}

abbrev pub changed : Option (ℕ × Slot) → List Slot → List Slot
changed None l = l
changed (Some c) l = set l c.0 c.1
