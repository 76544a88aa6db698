-- Which slot an offer changes: the first free one, or the one in which the rival is found; all others stay.
-- Slot by slot.
use Prim.Native.Nat.{suc, ◌<◌}
use mathlib.Core.Path.{◌≡◌, refl, sym, ap, ◌∙◌}
use mathlib.Core.Bool.{true}
use mathlib.Core.List.{List, [], ◌∷◌}
use native.Mathlib.Omega.{arith}
use lib.ListN.{length, get_or, set}
use Rattle.scan.proofs.Step.{false_true}
use Rattle.event.specs.Event.{Event}
use Rattle.archive.specs.Archive.{Name, name_of, Entry, free, held, one, lookup, has_free, fill, swap, first_free, place_of}
use Rattle.archive.proofs.Lookup.{name_self, Same, same, other, decide, one_none, found_here, found_past}

-- ---- the first free slot

pub first_free_within : (s : List Entry) → has_free s ≡ true → first_free s < length s
first_free_within [] h = absurd (false_true h)
first_free_within (free ∷ s) h = omega arith
first_free_within (held d ∷ s) h = let ih = first_free_within s h in omega arith

pub first_free_free : (s : List Entry) (x : Entry) → has_free s ≡ true → get_or s (first_free s) x ≡ free
first_free_free [] x h = absurd (false_true h)
first_free_free (free ∷ s) x h = refl
first_free_free (held d ∷ s) x h = first_free_free s x h

pub fill_set : (e : Event) (s : List Entry) → has_free s ≡ true → fill e s ≡ set s (first_free s) (held e)
fill_set e [] h = absurd (false_true h)
fill_set e (free ∷ s) h = refl
fill_set e (held d ∷ s) h = ap (λ (t : List Entry). held d ∷ t) (fill_set e s h)

-- ---- the slot of a name

module _ (n : Name) {d : Event} where
  pub place_of_within : (s : List Entry) → lookup n s ≡ one d → place_of n s < length s
  place_of_within [] q = absurd (one_none (sym q))
  place_of_within (free ∷ s) q = let ih = place_of_within s q in omega arith
  place_of_within (held c ∷ s) q = go (λ r. place_of_within s r) (decide n (name_of c))
    where
      go : (lookup n s ≡ one d → place_of n s < length s) → Same n (name_of c) → place_of n (held c ∷ s) < suc (length s)
      go ih (same p) = rw (p, name_self (name_of c)) (omega arith)
      go ih (other p) = let l = ih (sym (found_past n c s p) ∙ q) in rw p (omega arith)

  pub place_of_found : (s : List Entry) (x : Entry) → lookup n s ≡ one d → get_or s (place_of n s) x ≡ held d
  place_of_found [] x q = absurd (one_none (sym q))
  place_of_found (free ∷ s) x q = place_of_found s x q
  place_of_found (held c ∷ s) x q = go (λ r. place_of_found s x r) (decide n (name_of c))
    where
      go : (lookup n s ≡ one d → get_or s (place_of n s) x ≡ held d) → Same n (name_of c) → get_or (held c ∷ s) (place_of n (held c ∷ s)) x ≡ held d
      go ih (same p) = let h = found_here n c s p in let e : c ≡ d = cc in rw (p, name_self (name_of c)) (ap held e)
      go ih (other p) = rw p (ih (sym (found_past n c s p) ∙ q))

pub swap_set : (e : Event) (s : List Entry) {d : Event} → lookup (name_of e) s ≡ one d → swap e s ≡ set s (place_of (name_of e) s) (held e)
swap_set e [] q = absurd (one_none (sym q))
swap_set e (free ∷ s) q = ap (λ (t : List Entry). free ∷ t) (swap_set e s q)
swap_set e (held c ∷ s) {d} q = go (λ r. swap_set e s r) (decide (name_of e) (name_of c))
  where
    go : (lookup (name_of e) s ≡ one d → swap e s ≡ set s (place_of (name_of e) s) (held e)) → Same (name_of e) (name_of c)
        → swap e (held c ∷ s) ≡ set (held c ∷ s) (place_of (name_of e) (held c ∷ s)) (held e)
    go ih (same p) = rw (← p, name_self (name_of e))
    go ih (other p) = rw p (ap (λ (t : List Entry). held c ∷ t) (ih (sym (found_past (name_of e) c s p) ∙ q)))
