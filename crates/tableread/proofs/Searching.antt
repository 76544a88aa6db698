-- What is looked for among the known slots is what the definitions say of the entries: what is kept under a name, and
-- in which slot; the first free slot. Slot by slot.
use Prim.Native.Nat.{ℕ, suc, ◌+◌}
use mathlib.Core.Path.{◌≡◌, refl, ap, ◌∙◌, subst}
use Rattle.std.specs.Prelude.{Option, Some, None}
use mathlib.Core.Bool.{Bool, true, false}
use mathlib.Core.List.{List, ◌∷◌}
use native.Mathlib.Omega.{arith}
use Rattle.scan.specs.Choice.{pick}
use Rattle.event.specs.Event.{Event}
use Rattle.keys.specs.declared.KeyPlace.{KeyPlace}
use Rattle.archive.specs.Archive.{Name, name_of, same_name, Entry, free, held, one, none, lookup, has_free, first_free, place_of}
use Rattle.tableread.specs.declared.Stored.{Stored}
use Rattle.tableread.specs.declared.Known.{Known}
use Rattle.tableread.specs.inner.Prints.{print_of}
use Rattle.tableread.specs.inner.Known.{name_there, find_from, free_from}
use Rattle.tableread.proofs.Knowing.{Stands}
use Rattle.tableread.proofs.Entries.{Alike, ends, frees, holds_one, holds_name_lem}

module _ (cells : List ℕ) where
  -- ---- what is kept under a name

  -- what is found among known slots, the first being number i, and what is kept in the entries
  data Finds (n : Name) (i : ℕ) (l : List Entry) : Option (ℕ × Stored) → Type 0 where
    hits : {j : ℕ} {a : Stored} {d : Event} → j ≡ i + place_of n l → lookup n l ≡ one d → Stands cells a d → Finds n i l (Some (j, a))
    misses : lookup n l ≡ none → Finds n i l None

  further : {n : Name} {i : ℕ} {l : List Entry} {r : Option (ℕ × Stored)} (x : Entry) → lookup n (x ∷ l) ≡ lookup n l → place_of n (x ∷ l) ≡ suc (place_of n l)
      → Finds n (suc i) l r → Finds n i (x ∷ l) r
  further x e f (hits {j} p q g) = hits {j = j} (omega (arith, p, f)) (e ∙ q) g
  further x e f (misses q) = misses (e ∙ q)

  module _ (s : List ℕ) (key : Option KeyPlace) (print : ℕ) (n : Name) (is : n ≡ name_there s key) (prints : print ≡ print_of n) where
    finds : (i : ℕ) {ks : List Known} {l : List Entry} → Alike cells ks l → Finds n i l (find_from cells s key print i ks)
    unfolding find_from
    finds i ends = misses refl
    finds i (frees u) = further free refl refl (finds (suc i) u)
    finds i (holds_one {a} {e} {ks} {l} g u) = rw (holds_name_lem cells s key print n is prints g) (by_name (same_name n (name_of e)) refl (finds (suc i) u))
      where
        by_name : (t : Bool) → same_name n (name_of e) ≡ t → Finds n (suc i) l (find_from cells s key print (suc i) ks)
            → Finds n i (held e ∷ l) (pick t (Some (i, a)) (find_from cells s key print (suc i) ks))
        by_name true q v = hits {j = i} {d = e} (rw q (omega arith)) (rw q) g
        by_name false q v = further (held e) (rw q) (rw q) v

    module _ {ks : List Known} {l : List Entry} (u : Alike cells ks l) where
      pub found_at : {i : ℕ} {a : Stored} → find_from cells s key print 0 ks ≡ Some (i, a) → (d : Event) × (lookup n l ≡ one d) × Stands cells a d × (i ≡ place_of n l)
      found_at {i} {a} e = go (finds 0 u) e
        where
          go : {r : Option (ℕ × Stored)} → Finds n 0 l r → r ≡ Some (i, a) → (d : Event) × (lookup n l ≡ one d) × Stands cells a d × (i ≡ place_of n l)
          go (hits {j} {a = b} {d} p q g) e =
              let f : ◌≡◌ {A = ℕ × Stored} (j, b) (i, a) = cc in
              let h = ap (λ (x : ℕ × Stored). x.0) f in
              (d, q, subst (λ (x : ℕ × Stored). Stands cells x.1 d) f g, omega (arith, p, h))
          go (misses q) e = absurd (cc)

      pub missing_none : find_from cells s key print 0 ks ≡ None → lookup n l ≡ none
      missing_none e = go (finds 0 u) e
        where
          go : {r : Option (ℕ × Stored)} → Finds n 0 l r → r ≡ None → lookup n l ≡ none
          go (hits p q g) e = absurd (cc)
          go (misses q) e = q

  -- ---- the first free slot

  data Frees (i : ℕ) (l : List Entry) : Option ℕ → Type 0 where
    room : {j : ℕ} → j ≡ i + first_free l → has_free l ≡ true → Frees i l (Some j)
    full : has_free l ≡ false → Frees i l None

  free_among : (i : ℕ) {ks : List Known} {l : List Entry} → Alike cells ks l → Frees i l (free_from i ks)
  unfolding free_from
  free_among i ends = full refl
  free_among i (frees u) = room {j = i} (omega arith) refl
  free_among i (holds_one {e = e} {l = l} g u) = go (free_among (suc i) u)
    where
      go : {r : Option ℕ} → Frees (suc i) l r → Frees i (held e ∷ l) r
      go (room {j} p q) = room {j = j} (omega (arith, p)) q
      go (full q) = full q

  pub free_at : {ks : List Known} {l : List Entry} {i : ℕ} → Alike cells ks l → free_from 0 ks ≡ Some i → (has_free l ≡ true) × (i ≡ first_free l)
  free_at {l = l} {i = i} u e = go (free_among 0 u) e
    where
      go : {r : Option ℕ} → Frees 0 l r → r ≡ Some i → (has_free l ≡ true) × (i ≡ first_free l)
      go (room {j} p q) e = let h : j ≡ i = cc in (q, omega (arith, p, h))
      go (full q) e = absurd (cc)

  pub free_none : {ks : List Known} {l : List Entry} → Alike cells ks l → free_from 0 ks ≡ None → has_free l ≡ false
  free_none {l = l} u e = go (free_among 0 u) e
    where
      go : {r : Option ℕ} → Frees 0 l r → r ≡ None → has_free l ≡ false
      go (room p q) e = absurd (cc)
      go (full q) e = q
