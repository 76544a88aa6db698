-- An offer leaves every name once in the table: a free slot takes an event only where nothing has its name, and a
-- swap leaves each slot's name as it is. Slot by slot.
use Prim.Native.Nat.{ℕ, zero, suc}
use mathlib.Core.Path.{◌≡◌, refl, sym, ap, subst, ◌∙◌}
use mathlib.Core.Bool.{false}
use mathlib.Core.List.{List, [], ◌∷◌}
use native.Mathlib.Omega.{arith}
use lib.ListN.{get_or}
use Rattle.event.specs.Event.{Event}
use Rattle.archive.specs.declared.Outcome.{Outcome}
use Rattle.archive.specs.declared.Outcome.TheVariants.{New, Replaced, Loses, Held, NotKept}
use Rattle.archive.specs.Archive.{Name, name_of, same_name, Entry, free, held, none, one, lookup, fill, swap, wanted, act}
use Rattle.archive.specs.inner.Distinct.{Distinct, end, skip, keep}
use Rattle.archive.proofs.Lookup.{name_self, Same, same, other, decide, turned, one_none, found_here, found_past}
use Rattle.archive.proofs.Laws.{new_none}

free_held : {d : Event} → free ≡ held d → ⊥
free_held q = let z : ◌≡◌ {A = ℕ} 0 1 = cc in omega arith

-- where nothing is found, no slot has the name
none_first : (n : Name) (d : Event) (s : List Entry) → lookup n (held d ∷ s) ≡ none → (same_name n (name_of d) ≡ false) × (lookup n s ≡ none)
none_first n d s h = go (decide n (name_of d))
  where
    go : Same n (name_of d) → (same_name n (name_of d) ≡ false) × (lookup n s ≡ none)
    go (same p) = absurd (one_none (sym (found_here n d s p) ∙ h))
    go (other p) = (p, sym (found_past n d s p) ∙ h)

fill_none : (n : Name) (e : Event) (s : List Entry) → same_name n (name_of e) ≡ false → lookup n s ≡ none → lookup n (fill e s) ≡ none
fill_none n e [] p h = h
fill_none n e (free ∷ s) p h = found_past n e s p ∙ h
fill_none n e (held d ∷ s) p h = let t = none_first n d s h in found_past n d (fill e s) t.0 ∙ fill_none n e s p t.1

fill_distinct : (e : Event) (s : List Entry) → lookup (name_of e) s ≡ none → Distinct s → Distinct (fill e s)
fill_distinct e [] h end = end
fill_distinct e (free ∷ s) h (skip v) = keep h v
fill_distinct e (held d ∷ s) h (keep n v) =
    let t = none_first (name_of e) d s h in
    keep (fill_none (name_of d) e s (turned (name_of e) (name_of d) t.0) n) (fill_distinct e s t.1 v)

swap_none : (n : Name) (e : Event) (s : List Entry) → lookup n s ≡ none → lookup n (swap e s) ≡ none
swap_none n e [] h = h
swap_none n e (free ∷ s) h = swap_none n e s h
swap_none n e (held d ∷ s) h = go (λ q. swap_none n e s q) (none_first n d s h) (decide (name_of e) (name_of d))
  where
    go : (lookup n s ≡ none → lookup n (swap e s) ≡ none) → (same_name n (name_of d) ≡ false) × (lookup n s ≡ none) → Same (name_of e) (name_of d)
        → lookup n (swap e (held d ∷ s)) ≡ none
    go ih t (same p) = rw (← p, name_self (name_of e)) (found_past n e s (ap (same_name n) p ∙ t.0) ∙ t.1)
    go ih t (other p) = rw p (found_past n d (swap e s) t.0 ∙ ih t.1)

swap_distinct : (e : Event) (s : List Entry) → Distinct s → Distinct (swap e s)
swap_distinct e [] end = end
swap_distinct e (free ∷ s) (skip v) = skip (swap_distinct e s v)
swap_distinct e (held d ∷ s) (keep n v) = go (swap_distinct e s v) (decide (name_of e) (name_of d))
  where
    go : Distinct (swap e s) → Same (name_of e) (name_of d) → Distinct (swap e (held d ∷ s))
    go ih (same p) = rw (← p, name_self (name_of e)) (keep (ap (λ (m : Name). lookup m s) p ∙ n) v)
    go ih (other p) = rw p (keep (swap_none (name_of d) e s n) ih)

-- An offer leaves every name once.
pub act_distinct : (s : List Entry) (e : Event) (r : Outcome) → r ≡ wanted s e → Distinct s → Distinct (act r e s)
act_distinct s e New q v = fill_distinct e s (new_none s e (sym q)) v
act_distinct s e Replaced q v = swap_distinct e s v
act_distinct s e Loses q v = v
act_distinct s e Held q v = v
act_distinct s e NotKept q v = v

-- Where every name stands once, what a slot holds is what is found under its name.
pub distinct_found : {s : List Entry} → Distinct s → (i : ℕ) {d : Event} → get_or s i free ≡ held d → lookup (name_of d) s ≡ one d
distinct_found end i q = absurd (free_held q)
distinct_found (skip v) zero q = absurd (free_held q)
distinct_found (skip v) (suc i) q = distinct_found v i q
distinct_found (keep {d = c} {s = s} n v) zero {d} q =
    let e : c ≡ d = cc in subst (λ (x : Event). lookup (name_of x) (held c ∷ s) ≡ one x) e (found_here (name_of c) c s refl)
distinct_found (keep {d = c} {s = s} n v) (suc i) {d} q = go (distinct_found v i q) (decide (name_of d) (name_of c))
  where
    go : lookup (name_of d) s ≡ one d → Same (name_of d) (name_of c) → lookup (name_of d) (held c ∷ s) ≡ one d
    go ih (same p) = absurd (one_none (sym ih ∙ ap (λ (m : Name). lookup m s) p ∙ n))
    go ih (other p) = found_past (name_of d) c s p ∙ ih
