-- The slots that lent bytes are, or 34. Assumes nothing.
use Rattle.std.specs.Prelude.{ℕ, List, length, eqb}
use Rattle.scan.specs.Choice.{pick, Answer, shown, refused}
use Rattle.slots.specs.declared.Slot.{Slot}
use Rattle.slotbytes.specs.SlotBytes.{slots_in}

abbrev pub lent_slots : List ℕ → Answer (List Slot)
lent_slots b = pick (eqb (length b) 1_024) (shown (slots_in 64 b)) (refused 34 0)
