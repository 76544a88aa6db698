-- What an offer decides: what it comes to, and the slot that changes with what it becomes, which `lenttable` carries
-- out on the slots. Assumes nothing.
use Rattle.std.specs.Prelude.{ℕ, Option, Some, None, length}
use Rattle.scan.specs.Choice.{Answer, shown, and_then}
use Rattle.event.specs.Event.{Event}
use Rattle.notepack.specs.Strict.{pack}
use Rattle.slots.specs.declared.Slot.{Slot}
use Rattle.slots.specs.Slots.{used_slot}
use Rattle.table.specs.Offer.{Offer, Place, nowhere, slot, place_in}
use Rattle.tableoffer.specs.declared.Decision.{Decision}

-- the slot that changes, if the event has a place, with what it becomes
abbrev pub change_at : Place → Event → Option (ℕ × Slot)
change_at nowhere e = None
change_at (slot i) e = Some (i, used_slot (length (pack e)))

abbrev pub decision_at : Place → Offer → Decision
decision_at w o = record { outcome = o.outcome; change = change_at w o.event }

-- what is decided of an offer, or its refusal
abbrev pub decided : Answer Offer → Answer Decision
decided a = and_then a λ o. shown (decision_at (place_in o) o)
