-- Where the entries are shown, each slot is free or holds its event, and no name stands twice; and the other way
-- round. So an event put into one slot is an entry put into one place. Slot by slot.
use Prim.Native.Nat.{ℕ, zero, suc}
use mathlib.Core.Path.{◌≡◌, refl, sym, ap}
use mathlib.Core.Bool.{Bool, true, false}
use mathlib.Core.List.{List, [], ◌∷◌}
use native.Mathlib.Omega.{arith}
use lib.ListN.{length, set}
use Rattle.scan.specs.Choice.{pick, shown, refused, and_then}
use Rattle.scan.proofs.Step.{false_true}
use Rattle.scan.proofs.Many.{then_shown, shown_same}
use Rattle.event.specs.Event.{Event}
use Rattle.archive.specs.Archive.{Name, name_of, same_name, Entry, free, held, none, one, lookup}
use Rattle.archive.specs.inner.Distinct.{Distinct, end, skip, keep}
use Rattle.archive.proofs.Lookup.{one_none}
use Rattle.table.specs.Table.{Holds, nothing, bad, good, has_name, entries_from}

-- what the slots hold, one by one, and the entries: no slot is bad
pub data Alike : List Holds → List Entry → Type 0 where
  over : Alike [] []
  empty : {l : List Holds} {s : List Entry} → Alike l s → Alike (nothing ∷ l) (free ∷ s)
  full : {e : Event} {l : List Holds} {s : List Entry} → Alike l s → Alike (good e ∷ l) (held e ∷ s)

pub alike_length : {l : List Holds} {s : List Entry} → Alike l s → length l ≡ length s
alike_length over = refl
alike_length (empty a) = ap suc (alike_length a)
alike_length (full a) = ap suc (alike_length a)

-- an event into a slot, an entry into its place
pub alike_set : {l : List Holds} {s : List Entry} (i : ℕ) (e : Event) → Alike l s → Alike (set l i (good e)) (set s i (held e))
alike_set i e over = over
alike_set zero e (empty a) = full a
alike_set zero e (full a) = full a
alike_set (suc i) e (empty a) = empty (alike_set i e a)
alike_set (suc i) e (full a) = full (alike_set i e a)

-- a name that no slot has is not found, and the other way round
absent_none : (n : Name) {l : List Holds} {s : List Entry} → Alike l s → has_name n l ≡ false → lookup n s ≡ none
absent_none n over h = refl
absent_none n (empty a) h = absent_none n a h
absent_none n (full {e = e} {l = l} {s = s} a) h = by (same_name n (name_of e)) (absent_none n a) h
  where
    by : (t : Bool) → (has_name n l ≡ false → lookup n s ≡ none) → pick t true (has_name n l) ≡ false → pick t (one e) (lookup n s) ≡ none
    by true ih h = absurd (false_true (sym h))
    by false ih h = ih h

pub none_absent : (n : Name) {l : List Holds} {s : List Entry} → Alike l s → lookup n s ≡ none → has_name n l ≡ false
none_absent n over h = refl
none_absent n (empty a) h = none_absent n a h
none_absent n (full {e = e} {l = l} {s = s} a) h = by (same_name n (name_of e)) (none_absent n a) h
  where
    by : (t : Bool) → (lookup n s ≡ none → has_name n l ≡ false) → pick t (one e) (lookup n s) ≡ none → pick t true (has_name n l) ≡ false
    by true ih h = absurd (one_none h)
    by false ih h = ih h

-- ---- the entries are shown exactly so

pub record Told (l : List Holds) (s : List Entry) : Type 0 where
  pub alike : Alike l s
  pub distinct : Distinct s

pub entries_told : (i : ℕ) (l : List Holds) (s : List Entry) → entries_from i l ≡ shown s → Told l s
entries_told i [] s q = let e : [] ≡ s = shown_same q in rw (← e) (record { alike = over; distinct = end })
entries_told i (nothing ∷ l) s q =
    let t = then_shown (entries_from (suc i) l) _ s q in
    let e : free ∷ t.0 ≡ s = shown_same t.2 in
    let u = entries_told (suc i) l t.0 t.1 in
    rw (← e) (record { alike = empty u.alike; distinct = skip u.distinct })
entries_told i (bad ∷ l) s q = let z : ◌≡◌ {A = ℕ} 0 1 = cc in absurd (omega arith)
entries_told i (good d ∷ l) s q = by (has_name (name_of d) l) refl q (λ t h. entries_told (suc i) l t h)
  where
    by : (t : Bool) → has_name (name_of d) l ≡ t → pick t (refused 34 i) (and_then (entries_from (suc i) l) (λ s. shown (held d ∷ s))) ≡ shown s
        → ((t : List Entry) → entries_from (suc i) l ≡ shown t → Told l t) → Told (good d ∷ l) s
    by true h q ih = let z : ◌≡◌ {A = ℕ} 0 1 = cc in absurd (omega arith)
    by false h q ih =
        let t = then_shown (entries_from (suc i) l) _ s q in
        let e : held d ∷ t.0 ≡ s = shown_same t.2 in
        let u = ih t.0 t.1 in
        rw (← e) (record { alike = full u.alike; distinct = keep (absent_none (name_of d) u.alike h) u.distinct })

pub entries_shown : (i : ℕ) {l : List Holds} {s : List Entry} → Alike l s → Distinct s → entries_from i l ≡ shown s
entries_shown i over end = refl
entries_shown i (empty a) (skip v) = rw (entries_shown (suc i) a v)
entries_shown i (full {e = e} a) (keep n v) = rw (none_absent (name_of e) a n, entries_shown (suc i) a v)
