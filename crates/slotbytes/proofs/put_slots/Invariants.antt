-- `put_slots` writes the bytes of each slot. The invariant: what is left to write is that of the slots not yet passed.
-- Each turn is `bytes_turn`, the end `bytes_end`.
use lib.ListN.{drop}
use Rattle.buffer.proofs.Laws.{Left}
use Rattle.slotbytes.specs.SlotBytes.{slots_bytes}
use Rattle.slotbytes.proofs.put_slots.Given as goal

abbrev pub invariant-loop-s : goal.invariant-loop-s
invariant-loop-s l = Left l.initial.out 0 (slots_bytes l.fn.t) l.out l.o (slots_bytes (drop l.s-index l.fn.t))
