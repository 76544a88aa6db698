-- An offer to a lent table (rules 15): its answer, and every byte that it changes. Assumes nothing.
use Rattle.std.specs.Prelude.{ℕ, List, length, set, leb}
use Rattle.scan.specs.Choice.{pick, Answer, shown, refused, and_then}
use Rattle.event.specs.Event.{Event}
use Rattle.notepack.specs.Strict.{pack}
use Rattle.notepack.specs.Unpack.{unpack}
use Rattle.slots.specs.declared.Slot.{Slot}
use Rattle.slots.specs.Slots.{used_slot}
use Rattle.archive.specs.declared.Outcome.{Outcome}
use Rattle.archive.specs.declared.Outcome.TheVariants.{New, Replaced, Loses, Held, NotKept}
use Rattle.archive.specs.Archive.{name_of, Entry, first_free, place_of, offered}
use Rattle.table.specs.Cells.{cell_start, laid_over}
use Rattle.table.specs.Table.{entries_of}

-- the event that is offered: the refusals of what was read, then 22 for a strict form that passes a cell
unfoldable pub offered_event : Answer Event → Answer Event
offered_event a = and_then a λ e. pick (leb (length (pack e)) 1_024) (shown e) (refused 22 0)

-- an offer that is not refused: the entries of the table, the event, and what the offer comes to
pub record Offer : Type 0 where
  pub entries : List Entry
  pub event : Event
  pub outcome : Outcome

-- the entries, or 34; the event that was read, or its refusal; the outcome, or 23
unfoldable pub offer_of : List Slot → List ℕ → Answer Event → Answer Offer
offer_of slots cells a =
    and_then (entries_of slots cells) λ s.
    and_then (offered_event a) λ e.
    and_then (offered s e) λ r.
    shown (record { entries = s; event = e; outcome = r })

-- an offer of bare packed bytes
abbrev pub offer : List Slot → List ℕ → List ℕ → Answer Offer
offer slots cells packed = offer_of slots cells (unpack packed)

abbrev pub outcome_of : Answer Offer → Answer Outcome
outcome_of a = and_then a λ o. shown o.outcome

-- the slot that takes the event, if one does
pub data Place : Type 0 where
  nowhere : Place
  slot : ℕ → Place

abbrev pub place_by : Outcome → List Entry → Event → Place
place_by New s e = slot (first_free s)
place_by Replaced s e = slot (place_of (name_of e) s)
place_by Loses s e = nowhere
place_by Held s e = nowhere
place_by NotKept s e = nowhere

abbrev pub place_in : Offer → Place
place_in o = place_by o.outcome o.entries o.event

-- the slots and the cells with the event in its place
abbrev pub slots_with : Place → Event → List Slot → List Slot
slots_with nowhere e l = l
slots_with (slot i) e l = set l i (used_slot (length (pack e)))

abbrev pub cells_with : Place → Event → List ℕ → List ℕ
cells_with nowhere e d = d
cells_with (slot i) e d = laid_over (cell_start i) (pack e) d

-- the slots and the cells after an offer; a refusal leaves both as they were
abbrev pub slots_after : Answer Offer → List Slot → List Slot
slots_after (shown o) l = slots_with (place_in o) o.event l
slots_after (refused n p) l = l

abbrev pub cells_after : Answer Offer → List ℕ → List ℕ
cells_after (shown o) d = cells_with (place_in o) o.event d
cells_after (refused n p) d = d
