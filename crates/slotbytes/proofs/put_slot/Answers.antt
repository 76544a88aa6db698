-- `put_slot` writes the mark, the seven bytes and the length: three writers in a row (`then`).
use Rattle.buffer.proofs.Laws.{then}
use Rattle.slotbytes.specs.SlotBytes.{slot_bytes}
use Rattle.slotbytes.proofs.put_slot.Goals as goal

pub returns : goal.returns
unfolding slot_bytes
returns c = then c.put_byte-a.ensures (then c.put_number-b.ensures c.put_number.ensures)
