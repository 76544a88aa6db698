-- A run of calls on the two lent buffers is a run of offers to what they hold, so the theorems over entries hold of
-- the bytes. One call: its slots read as the slots with one changed (`slots_with`), and a good table stays good.
use Prim.Native.Nat.{ℕ, zero, suc}
use mathlib.Core.Path.{◌≡◌, sym, ap, ◌∙◌, subst}
use mathlib.Core.List.{List, ◌∷◌}
use lib.ListN.{length, replicate, length-replicate}
use lib.Dec.{eqb}
use borrow.Author.Tests.{eq-eqb, eqb-true}
use Rattle.scan.proofs.Many.{pick_shown}
use Rattle.scan.specs.Choice.{shown}
use Rattle.scan.specs.Bytes.{IsBytes}
use Rattle.event.specs.Event.{Event}
use Rattle.slots.specs.declared.Slot.{Slot}
use Rattle.slotbytes.specs.SlotBytes.{slots_in}
use Rattle.slotbytes.proofs.Laws.{slots_zero}
use Rattle.archive.specs.Archive.{Name, under, alone, Entry, free, lookup, act}
use Rattle.archive.specs.Current.{Emptied, Took}
use Rattle.archive.specs.Current as current
use Rattle.archive.proofs.Current.{keeps_current, any_order}
use Rattle.archive.proofs.Alone.{keeps-alone, any-order-alone}
use Rattle.table.specs.Table.{entries_of}
use Rattle.table.specs.Offer.{Offer}
use Rattle.table.proofs.Good.{good_free}
use Rattle.table.proofs.Offers.{offer_apart, offer_entries, offer_within, offer_kept}
use Rattle.tablebytes.specs.Entries.{table_entries, table_offer}
use Rattle.tablebytes.proofs.Slots.{offer_bytes, slots_with_lem, length_with_lem}
use Rattle.tablebytes.specs.Runs.{Lent, emptied, after, Ran, stop, next, kept_under, Empties, ShowsOffered, NeverBad, HoldsCurrent, HoldsAlone, AnyOrder}

-- ---- what the buffers hold

pub record Stands (t : Lent) (s : List Entry) : Type 0 where
  pub many : length t.slots ≡ 1_024
  pub entries : entries_of (slots_in 64 t.slots) t.cells ≡ shown s

stands_shown : {t : Lent} {s : List Entry} → Stands t s → table_entries t.slots t.cells ≡ shown s
unfolding table_entries
stands_shown {t} w = rw (eq-eqb (length t.slots) 1_024 w.many) w.entries

pub stands_emptied : Stands emptied (replicate 64 free)
unfolding emptied
stands_emptied =
    record {
      many = length-replicate {A = ℕ} 1_024 0;
      entries = ap (λ (l : List Slot). entries_of l (replicate 65_536 0)) (slots_zero 64) ∙ good_free (replicate 65_536 0) (length-replicate {A = ℕ} 65_536 0);
    }

nothing_kept : (n : ℕ) → Emptied (replicate n free)
nothing_kept zero = current.end
nothing_kept (suc n) = current.more (nothing_kept n)

-- ---- one call

pub after_stands : (t : Lent) (p : List ℕ) (o : Offer) → IsBytes p → table_offer t.slots t.cells p ≡ shown o → Stands (after t p) (act o.outcome o.event o.entries)
unfolding after
after_stands t p o y q =
    let b = offer_bytes t.slots t.cells p o q in
    let u = offer_apart (slots_in 64 t.slots) t.cells p o b.1 in
    let w = offer_within (slots_in 64 t.slots) t.cells p o b.1 in
    rw q
    (record {
      many = length_with_lem o.event u.small t.slots b.0 w;
      entries = rw (slots_with_lem o.event u.small t.slots b.0 w) (offer_kept (slots_in 64 t.slots) t.cells p o y b.1);
    })

-- ---- a run

took : {t u : Lent} {ps : List (List ℕ)} {es : List Event} (s : List Entry) → Stands t s → Ran t ps es u → (v : List Entry) × Took s es v × Stands u v
took s w stop = (s, current.stop, w)
took s w (next {t = t} {p = p} {es = es} {o = o} y q r) =
    let b = offer_bytes t.slots t.cells p o q in
    let u = offer_apart (slots_in 64 t.slots) t.cells p o b.1 in
    let e = offer_entries (slots_in 64 t.slots) t.cells p o s b.1 w.entries in
    let k = took (act o.outcome o.event o.entries) (after_stands t p o y q) r in
    (k.0, subst (λ (x : List Entry). Took x (o.event ∷ es) k.0) e (current.next o.outcome u.outcome k.1), k.2)

-- from an emptied table
from_emptied : {t : Lent} {ps : List (List ℕ)} {es : List Event} → Ran emptied ps es t → (v : List Entry) × Took (replicate 64 free) es v × Stands t v
from_emptied r = took (replicate 64 free) stands_emptied r

kept_found : {t : Lent} {s : List Entry} (n : Name) → Stands t s → kept_under t n ≡ shown (lookup n s)
unfolding kept_under
kept_found n w = rw (stands_shown w)

-- ---- what the specification says

pub empties : Empties
unfolding emptied
empties t v q =
    let a = pick_shown (eqb (length t.slots) 1_024) _ 34 0 v q in
    let b = pick_shown (eqb (length t.cells) 65_536) _ 34 0 v a.1 in
    let n = eqb-true (length t.slots) 1_024 a.0 in
    let m = eqb-true (length t.cells) 65_536 b.0 in
    rw q (ap (λ (k : ℕ). replicate k 0) n, ap (λ (k : ℕ). replicate k 0) m)

pub shows_offered : ShowsOffered
shows_offered t p o q = (offer_apart (slots_in 64 t.slots) t.cells p o (offer_bytes t.slots t.cells p o q).1).event

pub never_bad : NeverBad
never_bad ps es t r = let k = from_emptied r in (k.0, stands_shown k.2)

pub holds_current : HoldsCurrent
holds_current ps es t r k =
    let v = from_emptied r in
    (lookup (under k) v.0, kept_found (under k) v.2, keeps_current (replicate 64 free) v.0 es (nothing_kept 64) v.1 k)

pub holds_alone : HoldsAlone
holds_alone ps es t r u e a k j =
    let v = from_emptied r in
    kept_found (alone e.id) v.2 ∙ ap shown (keeps-alone (replicate 64 free) v.0 es (nothing_kept 64) v.1 u e a k j)

pub in_any_order : AnyOrder
in_any_order ps qs es fs t u r r' to back unique n =
    let v = from_emptied r in
    let w = from_emptied r' in
    kept_found n v.2 ∙ ap shown (same n v.0 w.0 v.1 w.1) ∙ sym (kept_found n w.2)
  where
    same : (n : Name) (v w : List Entry) → Took (replicate 64 free) es v → Took (replicate 64 free) fs w → lookup n v ≡ lookup n w
    same (under k) v w a b = any_order (replicate 64 free) v (replicate 64 free) w es fs (nothing_kept 64) (nothing_kept 64) a b to back unique k
    same (alone i) v w a b = any-order-alone (replicate 64 free) v (replicate 64 free) w es fs (nothing_kept 64) (nothing_kept 64) a b to back unique i
