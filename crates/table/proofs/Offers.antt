-- An offer's effect on the bytes is the outcome's effect on what is kept, and a good table stays good.
-- By the outcome: a new event goes into the first free slot, a later one into its rival's; else nothing changes.
use Prim.Native.Nat.{ℕ, ◌<◌, ◌≤◌}
use mathlib.Core.Path.{◌≡◌, sym, ap, ◌∙◌, subst}
use mathlib.Core.Bool.{true, false}
use mathlib.Core.List.{List}
use native.Mathlib.Omega.{arith}
use lib.ListN.{length, set}
use lib.Dec.{leb}
use borrow.Author.Tests.{leb-true}
use Rattle.scan.specs.Choice.{Answer, shown}
use Rattle.scan.specs.Bytes.{IsBytes}
use Rattle.scan.proofs.Many.{after, pick_shown, shown_same}
use Rattle.event.specs.Event.{Event}
use Rattle.notepack.specs.Strict.{pack}
use Rattle.notepack.specs.Unpack.{unpack}
use Rattle.notepack.proofs.StrictLaws.{reads_again}
use Rattle.slots.specs.declared.Slot.{Slot}
use Rattle.slots.specs.Slots.{used_slot}
use Rattle.archive.specs.declared.Outcome.{Outcome}
use Rattle.archive.specs.declared.Outcome.TheVariants.{New, Replaced, Loses, Held, NotKept}
use Rattle.archive.specs.Archive.{name_of, Entry, held, is_ephemeral, first_free, place_of, wanted, fits, offered, act}
use Rattle.archive.specs.inner.Distinct.{Distinct}
use Rattle.archive.proofs.Laws.{Says, says, ephemeral, fresh, repeated, equal, worse, better, taken}
use Rattle.archive.proofs.Places.{first_free_within, fill_set, place_of_within, swap_set}
use Rattle.archive.proofs.Distinct.{act_distinct}
use Rattle.table.specs.Cells.{cell_start, laid_over}
use Rattle.table.specs.Table.{entries_of}
use Rattle.table.specs.Offer.{offered_event, Offer, offer_of, offer, Place, nowhere, slot, place_by, place_in, slots_with, cells_with, slots_after, cells_after}
use Rattle.table.proofs.Good.{Good, table_good, good_shown, good_many, laid_good}

-- ---- an offer, taken apart

-- what an offer that is not refused is made of
pub record Offered (slots : List Slot) (cells packed : List ℕ) (o : Offer) : Type 0 where
  pub entries : entries_of slots cells ≡ shown o.entries
  pub event : unpack packed ≡ shown o.event
  pub small : length (pack o.event) ≤ 1_024
  pub outcome : offered o.entries o.event ≡ shown o.outcome

event_offered : (a : Answer Event) (e : Event) → offered_event a ≡ shown e → (a ≡ shown e) × (length (pack e) ≤ 1_024)
unfolding offered_event
event_offered a e q =
    after a _ e q
    (λ d p r.
    let t = pick_shown (leb (length (pack d)) 1_024) _ 22 0 e r in
    let f : d ≡ e = shown_same t.1 in
    (p ∙ ap shown f, rw f at (leb-true (length (pack d)) 1_024 t.0)))

pub offer_apart : (slots : List Slot) (cells packed : List ℕ) (o : Offer) → offer slots cells packed ≡ shown o → Offered slots cells packed o
unfolding offer_of
offer_apart slots cells packed o q =
    after (entries_of slots cells) _ o q
    (λ s p q₁.
    after (offered_event (unpack packed)) _ o q₁
    (λ e f q₂.
    after (offered s e) _ o q₂
    (λ r h q₃.
    let u = event_offered (unpack packed) e f in
    let k : record { entries = s; event = e; outcome = r } ≡ o = shown_same q₃ in
    subst (Offered slots cells packed) k (record { entries = p; event = u.0; small = u.1; outcome = h }))))

-- its entries are the table's
pub offer_entries : (slots : List Slot) (cells packed : List ℕ) (o : Offer) (s : List Entry) → offer slots cells packed ≡ shown o → entries_of slots cells ≡ shown s → o.entries ≡ s
offer_entries slots cells packed o s q h = shown_same (sym (offer_apart slots cells packed o q).entries ∙ h)

-- ---- the slot that takes the event

-- one of the 64, if one does
pub data Within : Place → Type 0 where
  untouched : Within nowhere
  touched : {i : ℕ} → i < 64 → Within (slot i)

place_within : (s : List Entry) (e : Event) → length s ≡ 64 → (r : Outcome) → fits s r ≡ true → Says s e r → Within (place_by r s e)
place_within s e n New f (fresh k q) = touched {i = first_free s} (omega (arith, first_free_within s f))
place_within s e n Replaced f (better k q l) = touched {i = place_of (name_of e) s} (omega (arith, place_of_within (name_of e) s q))
place_within s e n Loses f (worse q l) = untouched
place_within s e n Held f (repeated q k) = untouched
place_within s e n Held f (equal q l) = untouched
place_within s e n NotKept f (ephemeral t) = untouched

-- what the outcome says, and that there is room for it
pub offer_says : (s : List Entry) (e : Event) (r : Outcome) → offered s e ≡ shown r → (wanted s e ≡ r) × (fits s r ≡ true) × Says s e r
offer_says s e r q = let t = taken s e r q in (t.0, t.1, subst (Says s e) t.0 (says s e))

pub offer_within : (slots : List Slot) (cells packed : List ℕ) (o : Offer) → offer slots cells packed ≡ shown o → Within (place_in o)
offer_within slots cells packed o q =
    let u = offer_apart slots cells packed o q in
    let t = offer_says o.entries o.event o.outcome u.outcome in
    place_within o.entries o.event (good_many (table_good slots cells o.entries u.entries)) o.outcome t.1 t.2

-- ---- its effect

module _ {slots : List Slot} {cells : List ℕ} {s : List Entry} (g : Good slots cells s) (e : Event) (reads : unpack (pack e) ≡ shown e) (small : length (pack e) ≤ 1_024) where
  -- a place that takes the event
  takes : (i : ℕ) (t : List Entry) → is_ephemeral e.kind ≡ false → i < length s → t ≡ set s i (held e) → Distinct t
      → Good (set slots i (used_slot (length (pack e)))) (laid_over (cell_start i) (pack e) cells) t
  takes i t k h q v = rw q (laid_good g e reads small k i h (rw q at v))

  outcome_good : (r : Outcome) → wanted s e ≡ r → fits s r ≡ true → Says s e r → Good (slots_with (place_by r s e) e slots) (cells_with (place_by r s e) e cells) (act r e s)
  outcome_good New w f (fresh k n) = takes (first_free s) _ k (first_free_within s f) (fill_set e s f) (act_distinct s e New (sym w) g.told.distinct)
  outcome_good Replaced w f (better k q l) = takes (place_of (name_of e) s) _ k (place_of_within (name_of e) s q) (swap_set e s q) (act_distinct s e Replaced (sym w) g.told.distinct)
  outcome_good Loses w f (worse q l) = g
  outcome_good Held w f (repeated q k) = g
  outcome_good Held w f (equal q l) = g
  outcome_good NotKept w f (ephemeral t) = g

-- An offer's effect on the bytes is the outcome's effect on what is kept: a good table stays good.
pub offer_kept : (slots : List Slot) (cells packed : List ℕ) (o : Offer) → IsBytes packed → offer slots cells packed ≡ shown o
    → entries_of (slots_after (shown o) slots) (cells_after (shown o) cells) ≡ shown (act o.outcome o.event o.entries)
offer_kept slots cells packed o y q =
    let u = offer_apart slots cells packed o q in
    let t = offer_says o.entries o.event o.outcome u.outcome in
    good_shown
    (outcome_good (table_good slots cells o.entries u.entries) o.event (reads_again packed o.event u.event y) u.small o.outcome t.0 t.1
    t.2)
