-- The bytes of the slots after an offer: read, they are the slots after it; and the slots after it, written, are those
-- bytes. By the laws of one slot of all (`slots_over`, `slots_set`).
use Prim.Native.Nat.{ℕ, ◌+◌, ◌*◌, ◌≤◌}
use mathlib.Core.Path.{◌≡◌, refl, sym, ap, ◌∙◌}
use mathlib.Core.List.{List, ◌++◌}
use native.Mathlib.Omega.{arith}
use lib.ListN.{length, take, drop}
use lib.Dec.{eqb}
use borrow.Author.Tests.{eqb-true}
use Rattle.scan.specs.Choice.{shown}
use Rattle.scan.specs.Bytes.{IsBytes}
use Rattle.scan.proofs.Many.{pick_shown}
use Rattle.event.specs.Event.{Event}
use Rattle.notepack.specs.Strict.{pack}
use Rattle.slots.specs.declared.Slot.{Slot}
use Rattle.slots.specs.Slots.{used_slot}
use Rattle.slotbytes.specs.SlotBytes.{slots_in, slot_bytes, slots_bytes}
use Rattle.slotbytes.proofs.Laws.{length_slot, slots_back, slots_set, slots_over}
use Rattle.table.specs.Cells.{laid_over}
use Rattle.table.specs.Offer.{Offer, offer, Place, slots_with}
use Rattle.table.proofs.Cells.{laid_length}
use Rattle.table.proofs.Offers.{Within, untouched, touched}
use Rattle.tablebytes.specs.Entries.{table_offer_of, table_offer, bytes_with}

-- an offer's sizes, and the offer to its slots
pub offer_bytes : (slots cells p : List ℕ) (o : Offer) → table_offer slots cells p ≡ shown o → (length slots ≡ 1_024) × (offer (slots_in 64 slots) cells p ≡ shown o)
unfolding table_offer_of
offer_bytes slots cells p o q = let t = pick_shown (eqb (length slots) 1_024) _ 34 0 o q in (eqb-true (length slots) 1_024 t.0, t.1)

-- one slot's bytes laid over are one slot changed, and the length stays
module _ (e : Event) (small : length (pack e) ≤ 1_024) (d : List ℕ) (n : length d ≡ 1_024) where
  abbrev new : Slot
  new = used_slot (length (pack e))

  pub slots_with_lem : {x : Place} → Within x → slots_in 64 (bytes_with x e d) ≡ slots_with x e (slots_in 64 d)
  unfolding laid_over
  slots_with_lem untouched = refl
  slots_with_lem (touched {i = i} h) =
      ap (λ (m : ℕ). slots_in 64 (take (16 * i) d ++ slot_bytes new ++ drop (16 * i + m) d)) (length_slot new)
      ∙ slots_over 64 d i new (omega arith) (omega (arith, small)) n h

  pub length_with_lem : {x : Place} → Within x → length (bytes_with x e d) ≡ 1_024
  length_with_lem untouched = n
  length_with_lem (touched {i = i} h) = laid_length (16 * i) (slot_bytes new) d (omega (arith, length_slot new, n)) ∙ n

  -- all slots written again, after the change: the bytes that the offer leaves
  pub bytes_with_lem : {x : Place} → IsBytes d → Within x → slots_bytes (slots_with x e (slots_in 64 d)) ≡ bytes_with x e d
  unfolding laid_over
  bytes_with_lem y untouched = slots_back 64 d y n
  bytes_with_lem y (touched {i = i} h) =
      slots_set 64 d i new y n h ∙ ap (λ (m : ℕ). take (16 * i) d ++ slot_bytes new ++ drop (16 * i + m) d) (sym (length_slot new))
