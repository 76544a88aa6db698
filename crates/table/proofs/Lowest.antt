-- The entries are refused with 34 at the lowest bad slot, and where they are shown none is bad: a slot that is passed
-- on the way is free, or its name stands in no slot behind it. Slot by slot.
use Prim.Native.Nat.{ℕ, zero, suc, ◌+◌, ◌<◌}
use mathlib.Core.Path.{◌≡◌, refl, sym, ap, ◌∙◌}
use mathlib.Core.Bool.{Bool, true, false}
use mathlib.Core.List.{List, [], ◌∷◌}
use native.Mathlib.Omega.{arith}
use lib.ListN.{get_or}
use Rattle.scan.specs.Choice.{pick, Answer, shown, refused, and_then}
use Rattle.scan.proofs.Step.{false_true}
use Rattle.event.specs.Event.{Event}
use Rattle.archive.specs.Archive.{Name, name_of, same_name, Entry, free, held}
use Rattle.archive.specs.inner.Distinct.{Distinct, end, skip, keep}
use Rattle.archive.proofs.Lookup.{name_self, name_is}
use Rattle.table.specs.Table.{Holds, nothing, bad, good, has_name, entries_from}
use Rattle.table.specs.inner.Lowest.{Bad, alone, twin, Lowest}
use Rattle.table.proofs.Entries.{Alike, over, empty, full, none_absent, entries_told}

-- ---- a slot that has a name

there : (n : Name) (l : List Holds) → has_name n l ≡ true → (j : ℕ) × (d : Event) × (get_or l j nothing ≡ good d) × (n ≡ name_of d)
there n [] h = absurd (false_true h)
there n (nothing ∷ l) h = let t = there n l h in (suc t.0, t.1, t.2, t.3)
there n (bad ∷ l) h = let t = there n l h in (suc t.0, t.1, t.2, t.3)
there n (good e ∷ l) h = by (same_name n (name_of e)) refl (there n l) h
  where
    by : (t : Bool) → same_name n (name_of e) ≡ t → (has_name n l ≡ true → (j : ℕ) × (d : Event) × (get_or l j nothing ≡ good d) × (n ≡ name_of d)) → pick t true (has_name n l) ≡ true
        → (j : ℕ) × (d : Event) × (get_or (good e ∷ l) j nothing ≡ good d) × (n ≡ name_of d)
    by true p ih h = (0, e, refl, name_is n (name_of e) p)
    by false p ih h = let t = ih h in (suc t.0, t.1, t.2, t.3)

nowhere : {d : Event} → nothing ≡ good d → ⊥
nowhere q = let z : ◌≡◌ {A = ℕ} 0 1 = cc in omega arith

named : (n : Name) (l : List Holds) (j : ℕ) (d : Event) → get_or l j nothing ≡ good d → n ≡ name_of d → has_name n l ≡ true
named n [] j d q h = absurd (nowhere q)
named n (nothing ∷ l) zero d q h = absurd (nowhere q)
named n (nothing ∷ l) (suc j) d q h = named n l j d q h
named n (bad ∷ l) zero d q h = let z : ◌≡◌ {A = ℕ} 0 1 = cc in absurd (omega arith)
named n (bad ∷ l) (suc j) d q h = named n l j d q h
named n (good e ∷ l) zero d q h = let f : e ≡ d = cc in rw (f, h, name_self (name_of d))
named n (good e ∷ l) (suc j) d q h = either (same_name n (name_of e)) (named n l j d q h)
  where
    either : (t : Bool) → has_name n l ≡ true → pick t true (has_name n l) ≡ true
    either true h = refl
    either false h = h

-- ---- past a slot that is not bad

-- neither by itself, nor by a slot behind it
record Clear (x : Holds) (l : List Holds) : Type 0 where
  well : x ≡ bad → ⊥
  once : (e : Event) → x ≡ good e → has_name (name_of e) l ≡ false

module _ (x : Holds) (l : List Holds) (c : Clear x l) where
  -- a name that stands in x does not stand behind it
  single : (e d : Event) (j : ℕ) → x ≡ good e → get_or l j nothing ≡ good d → name_of e ≡ name_of d → ⊥
  single e d j p q h = false_true (sym (c.once e p) ∙ named (name_of e) l j d q h)

  back : (i : ℕ) → Bad (x ∷ l) (suc i) → Bad l i
  back i (alone p) = alone p
  back i (twin e d zero n p q h) = absurd (single d e i q p (sym h))
  back i (twin e d (suc j) n p q h) = twin e d j (λ r. n (ap suc r)) p q h

  first : Bad (x ∷ l) 0 → ⊥
  first (alone p) = c.well p
  first (twin e d zero n p q h) = n refl
  first (twin e d (suc j) n p q h) = single e d j p q h

  past : (i : ℕ) → Lowest l i → Lowest (x ∷ l) (suc i)
  past i w = record { is_bad = forth w.is_bad; lowest = below }
    where
      forth : Bad l i → Bad (x ∷ l) (suc i)
      forth (alone p) = alone p
      forth (twin e d j n p q h) = twin e d (suc j) (λ r. n (omega (arith, r))) p q h

      below : (j : ℕ) → j < suc i → Bad (x ∷ l) j → ⊥
      below zero k b = first b
      below (suc j) k b = w.lowest j (omega arith) (back j b)

clear_free : (l : List Holds) → Clear nothing l
clear_free l = record { well = λ q. let z : ◌≡◌ {A = ℕ} 0 1 = cc in omega arith; once = λ d q. absurd (nowhere q) }

clear_event : (e : Event) (l : List Holds) → has_name (name_of e) l ≡ false → Clear (good e) l
clear_event e l h = record { well = λ q. let z : ◌≡◌ {A = ℕ} 0 1 = cc in omega arith; once = λ d q. let f : e ≡ d = cc in rw (← f) h }

-- ---- where the entries are shown

good_slots : {l : List Holds} {s : List Entry} → Alike l s → Distinct s → (i : ℕ) → Bad l i → ⊥
good_slots over end i (alone p) = let z : ◌≡◌ {A = ℕ} 0 1 = cc in omega arith
good_slots over end i (twin e d j n p q h) = nowhere p
good_slots (empty {l = l} a) (skip v) zero b = first nothing l (clear_free l) b
good_slots (empty {l = l} a) (skip v) (suc i) b = good_slots a v i (back nothing l (clear_free l) i b)
good_slots (full {e = e} {l = l} a) (keep n v) zero b = first (good e) l (clear_event e l (none_absent (name_of e) a n)) b
good_slots (full {e = e} {l = l} a) (keep n v) (suc i) b = good_slots a v i (back (good e) l (clear_event e l (none_absent (name_of e) a n)) i b)

-- Where the entries are shown no slot is bad.
pub none_bad : (l : List Holds) (s : List Entry) → entries_from 0 l ≡ shown s → (i : ℕ) → Bad l i → ⊥
none_bad l s q = let t = entries_told 0 l s q in good_slots t.alike t.distinct

-- ---- the refusal

-- a refusal that a slot's answer hands on
handed : {A B : Type 0} (r : Answer A) (f : A → B) (n p : ℕ) → and_then r (λ a. shown (f a)) ≡ refused n p → r ≡ refused n p
handed (shown a) f n p e = let z : ◌≡◌ {A = ℕ} 0 1 = cc in absurd (omega arith)
handed (refused m q) f n p e = let u : m ≡ n = cc in let v : q ≡ p = cc in rw (u, v)

record From (i : ℕ) (l : List Holds) (n p : ℕ) : Type 0 where
  number : n ≡ 34
  slot : ℕ
  place : p ≡ i + slot
  low : Lowest l slot

further : (i : ℕ) (x : Holds) (l : List Holds) (n p : ℕ) → Clear x l → From (suc i) l n p → From i (x ∷ l) n p
further i x l n p c f = record { number = f.number; slot = suc f.slot; place = omega (arith, f.place); low = past x l c f.slot f.low }

here : (i : ℕ) (l : List Holds) (n p : ℕ) → ◌≡◌ {A = Answer (List Entry)} (refused 34 i) (refused n p) → Bad l 0 → From i l n p
here i l n p e b =
    let u : 34 ≡ n = cc in
    let v : i ≡ p = cc in
    record { number = sym u; slot = 0; place = omega arith; low = record { is_bad = b; lowest = λ j k c. omega arith } }

refusal : (i : ℕ) (l : List Holds) (n p : ℕ) → entries_from i l ≡ refused n p → From i l n p
refusal i [] n p e = let z : ◌≡◌ {A = ℕ} 0 1 = cc in absurd (omega arith)
refusal i (nothing ∷ l) n p e =
    further i nothing l n p (clear_free l) (refusal (suc i) l n p (handed (entries_from (suc i) l) (λ s. free ∷ s) n p e))
refusal i (bad ∷ l) n p e = here i (bad ∷ l) n p e (alone refl)
refusal i (good d ∷ l) n p e = by (has_name (name_of d) l) refl e (refusal (suc i) l n p)
  where
    by : (t : Bool) → has_name (name_of d) l ≡ t → pick t (refused 34 i) (and_then (entries_from (suc i) l) (λ s. shown (held d ∷ s))) ≡ refused n p
        → (entries_from (suc i) l ≡ refused n p → From (suc i) l n p) → From i (good d ∷ l) n p
    by true h e ih = let t = there (name_of d) l h in here i (good d ∷ l) n p e (twin d t.1 (suc t.0) (λ r. omega arith) refl t.2 t.3)
    by false h e ih =
        further i (good d) l n p (clear_event d l h) (ih (handed (entries_from (suc i) l) (λ s. held d ∷ s) n p e))

-- The entries are refused with 34 alone, at the lowest bad slot.
pub lowest_bad : (l : List Holds) (n i : ℕ) → entries_from 0 l ≡ refused n i → (n ≡ 34) × Lowest l i
lowest_bad l n i e =
    let f = refusal 0 l n i e in
    let p : f.slot ≡ i = omega (arith, f.place) in
    (f.number, rw p at f.low)
