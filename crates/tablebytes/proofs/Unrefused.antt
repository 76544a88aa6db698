-- 64 events that fit their cells are never refused by an emptied table: an offer takes at most one free slot, so while
-- as many are free as events are left, each has room. Event by event.
use Prim.Native.Nat.{ℕ, zero, suc, ◌≤◌, ◌<◌}
use mathlib.Core.Path.{◌≡◌, refl, ap}
use mathlib.Core.Bool.{true}
use mathlib.Core.List.{List, [], ◌∷◌, map}
use native.Mathlib.Omega.{arith}
use lib.ListN.{length, replicate}
use borrow.Author.Tests.{eq-eqb, le-leb}
use Rattle.scan.specs.Choice.{shown}
use Rattle.scan.specs.Bytes.{All, none, also}
use Rattle.scan.proofs.Step.{pick_by}
use Rattle.event.specs.Event.{Event, Valid}
use Rattle.notepack.specs.Strict.{pack}
use Rattle.notepack.proofs.StrictLaws.{pack_bytes, reads_back}
use Rattle.archive.specs.declared.Outcome.{Outcome}
use Rattle.archive.specs.declared.Outcome.TheVariants.{New, Replaced, Loses, Held, NotKept}
use Rattle.archive.specs.Archive.{name_of, same_name, Entry, free, held, has_free, fill, swap, wanted, fits, offered, act}
use Rattle.table.specs.Offer.{offered_event, Offer, offer_of}
use Rattle.tablebytes.specs.Entries.{table_offer_of, table_offer}
use Rattle.tablebytes.specs.Runs.{Lent, emptied, after, Ran, stop, next, NeverRefused}
use Rattle.tablebytes.proofs.Runs.{Stands, stands_emptied, after_stands}

-- ---- how many slots are free

abbrev free_slots : List Entry → ℕ
free_slots [] = zero
free_slots (free ∷ s) = suc (free_slots s)
free_slots (held d ∷ s) = free_slots s

free_all : (n : ℕ) → free_slots (replicate n free) ≡ n
free_all zero = refl
free_all (suc n) = ap suc (free_all n)

some_free : (s : List Entry) → 0 < free_slots s → has_free s ≡ true
some_free [] h = absurd (omega arith)
some_free (free ∷ s) h = refl
some_free (held d ∷ s) h = some_free s h

fill_takes : (e : Event) (s : List Entry) → free_slots s ≤ suc (free_slots (fill e s))
fill_takes e [] = omega arith
fill_takes e (free ∷ s) = omega arith
fill_takes e (held d ∷ s) = fill_takes e s

swap_takes : (e : Event) (s : List Entry) → free_slots s ≤ free_slots (swap e s)
swap_takes e [] = omega arith
swap_takes e (free ∷ s) = let h = swap_takes e s in omega (arith, h)
swap_takes e (held d ∷ s) = pick_by (λ (t : List Entry). free_slots s ≤ free_slots t) (same_name (name_of e) (name_of d)) (λ _. omega arith) (λ _. swap_takes e s)

act_takes : (e : Event) (s : List Entry) (r : Outcome) → free_slots s ≤ suc (free_slots (act r e s))
act_takes e s New = fill_takes e s
act_takes e s Replaced = let h = swap_takes e s in omega (arith, h)
act_takes e s Loses = omega arith
act_takes e s Held = omega arith
act_takes e s NotKept = omega arith

has_room : (s : List Entry) → 0 < free_slots s → (r : Outcome) → fits s r ≡ true
has_room s h New = some_free s h
has_room s h Replaced = refl
has_room s h Loses = refl
has_room s h Held = refl
has_room s h NotKept = refl

-- ---- one offer

abbrev made_offer : List Entry → Event → Offer
made_offer s e = record { entries = s; event = e; outcome = wanted s e }

offer_made : (t : Lent) (s : List Entry) (e : Event) → Stands t s → Valid e → length (pack e) ≤ 1_024 → 0 < free_slots s
    → table_offer t.slots t.cells (pack e) ≡ shown (made_offer s e)
unfolding table_offer_of offer_of offered_event offered
offer_made t s e w v l h =
    rw (eq-eqb (length t.slots) 1_024 w.many, w.entries, reads_back e v (omega (arith, l)), le-leb (length (pack e)) 1_024 l, has_room s h (wanted s e))

-- ---- all of them

ran : (es : List Event) (t : Lent) (s : List Entry) → Stands t s → length es ≤ free_slots s → All Valid es → All (λ e. length (pack e) ≤ 1_024) es
    → (u : Lent) × Ran t (map pack es) es u
ran [] t s w h none none = (t, stop)
ran (e ∷ es) t s w h (also v vs) (also l ls) =
    let q = offer_made t s e w v l (omega (arith, h)) in
    let y = pack_bytes e v in
    let a = act_takes e s (wanted s e) in
    let k = ran es (after t (pack e)) (act (wanted s e) e s) (after_stands t (pack e) (made_offer s e) y q) (omega (arith, h, a)) vs ls in
    (k.0, next y q k.1)

pub never_refused : NeverRefused
never_refused es h v l = ran es emptied (replicate 64 free) stands_emptied (omega (arith, h, free_all 64)) v l
