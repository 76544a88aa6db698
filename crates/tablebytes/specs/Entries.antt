-- What the entries of a table promise, over the two lent buffers: 1,024 bytes of slots and 65,536 of cells (rules 15).
-- Assumes nothing.
use Rattle.std.specs.Prelude.{ℕ, ◌*◌, List, length, replicate, eqb}
use Rattle.scan.specs.Choice.{pick, Answer, shown, refused}
use Rattle.event.specs.Event.{Event}
use Rattle.notepack.specs.Strict.{pack}
use Rattle.notepack.specs.Unpack.{unpack}
use Rattle.slots.specs.Slots.{used_slot}
use Rattle.archive.specs.Archive.{Entry}
use Rattle.table.specs.Cells.{laid_over}
use Rattle.table.specs.Table.{entries_of}
use Rattle.table.specs.Standing.{Stand, stand_of}
use Rattle.table.specs.Offer.{Offer, offer_of, Place, nowhere, slot, place_in}
use Rattle.slotbytes.specs.SlotBytes.{slots_in, slot_bytes}

-- the entries of a lent table
unfoldable pub table_entries : List ℕ → List ℕ → Answer (List Entry)
table_entries slots cells = pick (eqb (length slots) 1_024) (entries_of (slots_in 64 slots) cells) (refused 34 0)

-- an offer of an event that was read, or refused
unfoldable pub table_offer_of : List ℕ → List ℕ → Answer Event → Answer Offer
table_offer_of slots cells a = pick (eqb (length slots) 1_024) (offer_of (slots_in 64 slots) cells a) (refused 34 0)

-- an offer of bare packed bytes
abbrev pub table_offer : List ℕ → List ℕ → List ℕ → Answer Offer
table_offer slots cells packed = table_offer_of slots cells (unpack packed)

-- the slots after an offer: the one that takes the event has 16 new bytes, every other keeps its own
abbrev pub bytes_with : Place → Event → List ℕ → List ℕ
bytes_with nowhere e d = d
bytes_with (slot i) e d = laid_over (16 * i) (slot_bytes (used_slot (length (pack e)))) d

abbrev pub bytes_after : Answer Offer → List ℕ → List ℕ
bytes_after (shown o) d = bytes_with (place_in o) o.event d
bytes_after (refused n p) d = d

-- where the event of slot n stands in the cells
unfoldable pub table_slot : List ℕ → List ℕ → ℕ → Answer Stand
table_slot slots cells n = pick (eqb (length slots) 1_024) (stand_of (slots_in 64 slots) cells n) (refused 34 0)

-- emptying: 34 at 0 for buffers of another size; else every byte of both is zero
abbrev pub sized : List ℕ → List ℕ → Answer ℕ
sized slots cells = pick (eqb (length slots) 1_024) (pick (eqb (length cells) 65_536) (shown 0) (refused 34 0)) (refused 34 0)

abbrev pub zeroed : Answer ℕ → List ℕ → List ℕ
zeroed (shown n) d = replicate (length d) 0
zeroed (refused n p) d = d
