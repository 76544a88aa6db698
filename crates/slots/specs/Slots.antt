-- The slots of a table, which has 64 of them (rules 15). Assumes nothing.
use Rattle.std.specs.Prelude.{ℕ, List, length, eqb}
use Rattle.scan.specs.Choice.{pick}
use Rattle.slots.specs.declared.Slot.{Slot}

-- the slots of a table of 64, and t for any other
unfoldable pub whole : List Slot → List Slot → List Slot
whole l t = pick (eqb (length l) 64) l t

-- a slot that is free, all zero
abbrev pub free_slot : Slot
free_slot = record { mark = 0; spare = 0; len = 0 }

-- a slot that holds n bytes
abbrev pub used_slot : ℕ → Slot
used_slot n = record { mark = 1; spare = 0; len = n }
