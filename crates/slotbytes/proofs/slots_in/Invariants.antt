-- `slots_in` tells the 64 slots of a buffer. The invariant: the table has 64 slots, and its first i are the buffer's.
-- Each turn is `table_turn`, the end `table_end`.
use mathlib.Core.Path.{◌≡◌}
use lib.ListN.{length, take}
use Rattle.slotbytes.specs.SlotBytes.{slots_in}
use Rattle.slotbytes.proofs.slots_in.Given as goal

abbrev pub invariant-loop-i : goal.invariant-loop-i
invariant-loop-i l = (length l.slot-items ≡ 64) × (take l.i l.slot-items ≡ take l.i (slots_in 64 l.b))
