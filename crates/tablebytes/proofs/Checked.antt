-- A table is checked before what is offered to it: a bad one answers 34 whatever is offered, and a good one hands on
-- the refusal of the event, or answers an event with an outcome, 22 or 23.
-- By the entries, which are told or refused with 34.
use Prim.{tt}
use Prim.Native.Nat.{ℕ}
use mathlib.Core.Path.{◌≡◌, refl}
use mathlib.Core.Bool.{Bool, true, false}
use mathlib.Core.List.{List, []}
use lib.ListN.{length}
use lib.Dec.{eqb}
use Rattle.scan.specs.Choice.{Answer, shown, refused}
use Rattle.event.specs.Event.{Event}
use Rattle.event.specs.inner.Tells.{value}
use Rattle.slotbytes.specs.SlotBytes.{slots_in}
use Rattle.archive.specs.Archive.{Entry}
use Rattle.table.specs.Table.{entries_of}
use Rattle.table.specs.Offer.{offered_event, offer_of}
use Rattle.tablebytes.specs.Entries.{table_offer_of}
use Rattle.tablebytes.specs.inner.Telling.{OfferTells}
use Rattle.tablebytes.proofs.Telling.{At34, fine, at, entries_34, table_offer_tells}

pub data Checked (slots cells : List ℕ) : Type 0 where
  bad : (i : ℕ) → ((a : Answer Event) → table_offer_of slots cells a ≡ refused 34 i) → Checked slots cells
  good : ((n p : ℕ) → table_offer_of slots cells (refused n p) ≡ refused n p) → ((e : Event) → OfferTells [] [] (table_offer_of slots cells (shown e)))
      → Checked slots cells

pub checked : (slots cells : List ℕ) → Checked slots cells
unfolding table_offer_of offer_of offered_event
checked slots cells = by_size (eqb (length slots) 1_024) refl (entries_of (slots_in 64 slots) cells) refl (entries_34 (slots_in 64 slots) cells)
  where
    by_size : (t : Bool) → eqb (length slots) 1_024 ≡ t → (x : Answer (List Entry)) → entries_of (slots_in 64 slots) cells ≡ x → At34 64 x → Checked slots cells
    by_size true e (shown s) q fine = good (λ n p. rw (e, q)) (λ d. table_offer_tells [] [] (shown d) (value tt) slots cells)
    by_size true e (refused n i) q (at h) = bad i (λ a. rw (e, q))
    by_size false e x q h = bad 0 (λ a. rw e)
