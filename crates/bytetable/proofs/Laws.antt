-- An offer through the slots of the lent bytes is the offer to the bytes: its answer, and the bytes that it leaves.
-- All slots are written again: those that did not change have the bytes that they had.
use Prim.Native.Nat.{ℕ, ◌<◌}
use mathlib.Core.Path.{◌≡◌, refl, sym, ap, ◌∙◌}
use mathlib.Core.Bool.{Bool, true, false}
use mathlib.Core.List.{List}
use lib.ListN.{length, get_or}
use lib.Dec.{eqb}
use borrow.Author.Tests.{eqb-true}
use Rattle.scan.specs.Choice.{pick, Answer, shown, refused, and_then}
use Rattle.scan.proofs.AllLaws.{all_places}
use Rattle.buffer.specs.inner.Store.{Wrote}
use Rattle.buffer.proofs.Places.{all_over}
use Rattle.slots.specs.declared.Slot.{Slot}
use Rattle.slotbytes.specs.SlotBytes.{slots_in, slots_bytes}
use Rattle.archive.specs.declared.Outcome.{Outcome}
use Rattle.table.specs.Standing.{stand_of}
use Rattle.table.specs.Offer.{Offer, offer, outcome_of, place_in, slots_with, slots_after, cells_after}
use Rattle.table.proofs.Offers.{offer_apart, offer_within}
use Rattle.tablebytes.specs.Entries.{table_offer_of, table_offer, bytes_after, table_slot}
use Rattle.tablebytes.proofs.Slots.{length_with_lem, bytes_with_lem}
use Rattle.bytetable.specs.inner.Lent.{lent_slots}

pick_then : {A B : Type 0} (x : Bool) (a : A) (f : A → Answer B) → pick x (f a) (refused 34 0) ≡ and_then (pick x (shown a) (refused 34 0)) f
pick_then true a f = refl
pick_then false a f = refl

-- the event of a slot
pub slot_lent : (slots cells : List ℕ) (i : ℕ) → table_slot slots cells i ≡ and_then (lent_slots slots) (λ t. stand_of t cells i)
unfolding table_slot
slot_lent slots cells i = pick_then (eqb (length slots) 1_024) (slots_in 64 slots) (λ t. stand_of t cells i)

module _ (slots cells packed : List ℕ) where
  offer_lent : table_offer slots cells packed ≡ and_then (lent_slots slots) (λ t. offer t cells packed)
  unfolding table_offer_of
  offer_lent = pick_then (eqb (length slots) 1_024) (slots_in 64 slots) (λ t. offer t cells packed)

  -- what an offer of the bytes is, answered and left so
  abbrev pub Leaves : Answer Offer → List ℕ → List ℕ → Type 0
  Leaves a b c = (outcome_of a ≡ outcome_of (table_offer slots cells packed)) × (b ≡ bytes_after (table_offer slots cells packed) slots) × (c ≡ cells_after (table_offer slots cells packed) cells)

  -- another size
  pub other_size : {n p : ℕ} → refused n p ≡ lent_slots slots → Leaves (refused n p) slots cells
  other_size e = rw (offer_lent, ← e) (refl, refl, refl)

  module _ {t : List Slot} (e : shown t ≡ lent_slots slots) where
    is_lent : (length slots ≡ 1_024) × (t ≡ slots_in 64 slots)
    is_lent = go (eqb (length slots) 1_024) refl e
      where
        go : (x : Bool) → eqb (length slots) 1_024 ≡ x → shown t ≡ pick x (shown (slots_in 64 slots)) (refused 34 0) → (length slots ≡ 1_024) × (t ≡ slots_in 64 slots)
        go true q e = (eqb-true (length slots) 1_024 q, cc)
        go false q e = absurd (cc)

    -- a refusal: nothing changes
    pub refuses : {n p : ℕ} {c : List ℕ} → refused n p ≡ outcome_of (offer t cells packed) → c ≡ cells_after (offer t cells packed) cells → Leaves (refused n p) slots c
    refuses {n} {p} {c} f g = rw (offer_lent, ← e) (go (offer t cells packed) f g)
      where
        go : (a : Answer Offer) → refused n p ≡ outcome_of a → c ≡ cells_after a cells → (refused n p ≡ outcome_of a) × (slots ≡ bytes_after a slots) × (c ≡ cells_after a cells)
        go (shown o) f g = absurd (cc)
        go (refused m q) f g = (f, refl, g)

    -- an outcome: all slots, written again
    pub writes : ((i : ℕ) → get_or slots i 0 < 256) → {o : Outcome} {u : List Slot} {b c : List ℕ} {k : ℕ} → shown o ≡ outcome_of (offer t cells packed)
        → u ≡ slots_after (offer t cells packed) t → c ≡ cells_after (offer t cells packed) cells → Wrote slots 0 (slots_bytes u) b k
        → (shown o ≡ outcome_of (table_offer slots cells packed)) × (b ≡ bytes_after (table_offer slots cells packed) slots) × (c ≡ cells_after (table_offer slots cells packed) cells)
    writes bytes {o} {u} {b} {c} {k} f s g w = rw (offer_lent, ← e) (go (offer t cells packed) refl f s g)
      where
        go : (a : Answer Offer) → offer t cells packed ≡ a → shown o ≡ outcome_of a → u ≡ slots_after a t → c ≡ cells_after a cells
            → (shown o ≡ outcome_of a) × (b ≡ bytes_after a slots) × (c ≡ cells_after a cells)
        go (shown d) q f s g =
            let n = is_lent.0 in
            let q' : offer (slots_in 64 slots) cells packed ≡ shown d = ap (λ (v : List Slot). offer v cells packed) (sym is_lent.1) ∙ q in
            let v = offer_apart (slots_in 64 slots) cells packed d q' in
            let i = offer_within (slots_in 64 slots) cells packed d q' in
            let m = bytes_with_lem d.event v.small slots n (all_places slots bytes) i in
            let x = ap slots_bytes s ∙ ap (λ (v : List Slot). slots_bytes (slots_with (place_in d) d.event v)) is_lent.1 ∙ m in
            let y = length_with_lem d.event v.small slots n i in
            (f, all_over (ap length x ∙ y ∙ sym n) w ∙ x, g)
        go (refused j p) q f s g = absurd (cc)
