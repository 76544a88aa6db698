-- A table's entries refuse with their own numbers: 34 at one of 64 slots, those of who read the event, 22, 23; 34 or
-- 19.
-- Step by step along the definitions.
use Prim.{Unit}
use Prim.Native.Nat.{ℕ, zero, suc, ◌+◌, ◌<◌}
use mathlib.Core.Path.{◌≡◌, refl, ap}
use mathlib.Core.Bool.{Bool, true, false}
use mathlib.Core.List.{List, [], ◌∷◌, map}
use native.Mathlib.Omega.{arith}
use lib.ListN.{length}
use lib.Dec.{eqb, leb}
use borrow.Author.Tests.{eqb-true}
use Rattle.scan.specs.Choice.{pick, Answer, shown, refused, and_then}
use Rattle.scan.proofs.Step.{pick_by}
use Rattle.event.specs.Event.{Event}
use Rattle.event.specs.inner.Tells.{Tells, refusal}
use Rattle.notepack.specs.Strict.{pack}
use Rattle.notepack.specs.Views.{nth}
use Rattle.slots.specs.declared.Slot.{Slot}
use Rattle.slotbytes.specs.SlotBytes.{slots_in}
use Rattle.archive.specs.declared.Outcome.{Outcome}
use Rattle.archive.specs.Archive.{name_of, Entry, free, held, wanted, fits, offered}
use Rattle.table.specs.Cells.{Cell, cells_from}
use Rattle.table.specs.Table.{Holds, nothing, bad, good, holds, has_name, entries_from, slots_hold, entries_of}
use Rattle.table.specs.Standing.{Stand, standing, stand_of}
use Rattle.table.specs.Offer.{offered_event, Offer, offer_of}
use Rattle.tablebytes.specs.Entries.{table_offer_of, table_slot}
use Rattle.tablebytes.specs.inner.Telling.{OfferTells, outcome, of_event, over_a_cell, full, SlotTells, found, no_event}
use Rattle.tablebytes.specs.inner.Telling as telling

-- 34 at a slot below n
pub data At34 (n : ℕ) {A : Type 0} : Answer A → Type 0 where
  fine : {a : A} → At34 n (shown a)
  at : {i : ℕ} → i < n → At34 n (refused 34 i)

then_34 : {n : ℕ} {A B : Type 0} {a : Answer A} (f : A → B) → At34 n a → At34 n (and_then a (λ (x : A). shown (f x)))
then_34 f fine = fine
then_34 f (at h) = at h

from_34 : (i n : ℕ) (l : List Holds) → n ≡ i + length l → At34 n (entries_from i l)
from_34 i n [] e = fine
from_34 i n (nothing ∷ l) e = then_34 (λ (s : List Entry). free ∷ s) (from_34 (suc i) n l (omega (arith, e)))
from_34 i n (bad ∷ l) e = at {i = i} (omega (arith, e))
from_34 i n (good d ∷ l) e =
    pick_by (λ (a : Answer (List Entry)). At34 n a) (has_name (name_of d) l) (λ _. at {i = i} (omega (arith, e)))
    (λ _. then_34 (λ (s : List Entry). held d ∷ s) (from_34 (suc i) n l (omega (arith, e))))

map_long : (l : List Cell) → length (map holds l) ≡ length l
map_long [] = refl
map_long (c ∷ l) = ap suc (map_long l)

cells_long : (cells : List ℕ) (i : ℕ) (l : List Slot) → length (cells_from cells i l) ≡ length l
cells_long cells i [] = refl
cells_long cells i (s ∷ l) = ap suc (cells_long cells (suc i) l)

pub entries_34 : (slots : List Slot) (cells : List ℕ) → At34 64 (entries_of slots cells)
unfolding entries_of slots_hold
entries_34 slots cells =
    pick_by (λ (a : Answer (List Entry)). At34 64 a) (eqb (length slots) 64)
    (λ e. pick_by (λ (a : Answer (List Entry)). At34 64 a) (eqb (length cells) 65_536)
    (λ _. let n = eqb-true (length slots) 64 e in from_34 0 64 (map holds (cells_from cells 0 slots)) (omega (arith, n, map_long (cells_from cells 0 slots), cells_long cells 0 slots)))
    (λ _. at {i = 0} (omega arith)))
    (λ _. at {i = 0} (omega arith))

-- ---- an offer

module _ (numbers packed : List ℕ) (a : Answer Event) (reads : Tells numbers (length packed) (λ (e : Event). Unit {0}) a) where
  abbrev Tell : {A : Type 0} → Answer A → Type 0
  Tell {A} = OfferTells numbers packed

  event_tells : {A : Type 0} (f : Event → Answer A) → ((e : Event) → Tell (f e)) → Tell (and_then (offered_event a) f)
  unfolding offered_event
  event_tells f g = go a reads
    where
      fitting : (t : Bool) (e : Event) → Tell (and_then (pick t (shown e) (refused 22 0)) f)
      fitting true e = g e
      fitting false e = over_a_cell

      go : (x : Answer Event) → Tells numbers (length packed) (λ (e : Event). Unit {0}) x
          → Tell (and_then (and_then x (λ (e : Event). pick (leb (length (pack e)) 1_024) (shown e) (refused 22 0))) f)
      go (shown e) t = fitting (leb (length (pack e)) 1_024) e
      go (refused n p) (refusal h k) = of_event h k

  -- the offer behind the entries
  abbrev behind : List Entry → Answer Offer
  behind s = and_then (offered_event a) λ e. and_then (offered s e) λ r. shown (record { entries = s; event = e; outcome = r })

  behind_tells : (s : List Entry) → Tell (behind s)
  unfolding offered
  behind_tells s = event_tells _ (λ e. last (fits s (wanted s e)) (wanted s e) (λ r. record { entries = s; event = e; outcome = r }))
    where
      last : (t : Bool) (r : Outcome) (f : Outcome → Offer) → Tell (and_then (pick t (shown r) (refused 23 0)) (λ (x : Outcome). shown (f x)))
      last true r f = outcome
      last false r f = full

  entries_offer : (x : Answer (List Entry)) → At34 64 x → Tell (and_then x behind)
  entries_offer (shown s) fine = behind_tells s
  entries_offer (refused n i) (at h) = telling.OfferTells.bad_table h

  offer_tells : (slots : List Slot) (cells : List ℕ) → Tell (offer_of slots cells a)
  unfolding offer_of
  offer_tells slots cells = entries_offer (entries_of slots cells) (entries_34 slots cells)

  -- an offer of what was read with these numbers
  pub table_offer_tells : (slots cells : List ℕ) → Tell (table_offer_of slots cells a)
  unfolding table_offer_of
  table_offer_tells slots cells =
      pick_by (λ (x : Answer Offer). Tell x) (eqb (length slots) 1_024) (λ _. offer_tells (slots_in 64 slots) cells)
      (λ _. telling.OfferTells.bad_table {i = 0} (omega arith))

-- ---- the event of a slot

abbrev stand_at : ℕ → List Entry → Answer Stand
stand_at n s = and_then (nth n s) λ x. standing n x

stand_tells : (m n : ℕ) (s : List Entry) → SlotTells (and_then (nth n s) (λ (x : Entry). standing m x))
stand_tells m n [] = no_event
stand_tells m zero (free ∷ s) = no_event
stand_tells m zero (held e ∷ s) = found
stand_tells m (suc n) (x ∷ s) = stand_tells m n s

entries_stand : (n : ℕ) (a : Answer (List Entry)) → At34 64 a → SlotTells (and_then a (stand_at n))
entries_stand n (shown s) fine = stand_tells n n s
entries_stand n (refused k i) (at h) = telling.SlotTells.bad_table h

stand_of_tells : (slots : List Slot) (cells : List ℕ) (n : ℕ) → SlotTells (stand_of slots cells n)
unfolding stand_of
stand_of_tells slots cells n = entries_stand n (entries_of slots cells) (entries_34 slots cells)

pub table_slot_tells : (slots cells : List ℕ) (n : ℕ) → SlotTells (table_slot slots cells n)
unfolding table_slot
table_slot_tells slots cells n =
    pick_by (λ (a : Answer Stand). SlotTells a) (eqb (length slots) 1_024) (λ _. stand_of_tells (slots_in 64 slots) cells n)
    (λ _. telling.SlotTells.bad_table {i = 0} (omega arith))
