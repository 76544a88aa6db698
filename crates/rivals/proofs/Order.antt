-- Choosing is symmetric but for the full tie, and the order of choosing does not change the (created_at, id) that is
-- kept.
-- `over` is a strict total order on (created_at, id); the rest is by cases.
use Prim.Native.Nat.{ℕ}
use mathlib.Core.Path.{◌≡◌, refl, sym, ◌∙◌}
use mathlib.Core.Bool.{Bool, true, false}
use mathlib.Core.List.{List, [], ◌∷◌}
use native.Mathlib.Omega.{arith}
use lib.Dec.{ltb, eqb}
use Rattle.std.proofs.lemmas.Bool.Decides.{nat_tests}
use Rattle.scan.specs.Choice.{pick}
use Rattle.scan.proofs.Step.{false_true}
use Rattle.event.specs.Event.{Event}
use Rattle.rivals.specs.declared.Kept.{Kept}
use Rattle.rivals.specs.declared.Kept.TheVariants.{First, Second, NotRivals}
use Rattle.scan.specs.Compare.{lower}
use Rattle.rivals.specs.Rivals.{keeps_by, keeps}

-- ---- one step of a comparison, over what the rest says

-- a is below b, or equal to it and the rest says so
step : ℕ → ℕ → Bool → Bool
step a b rest = pick (ltb a b) true (pick (eqb a b) rest false)

-- a step one way rules it out the other way, where that holds of the rest
step_asym : (a b : ℕ) (r q : Bool) → (r ≡ true → q ≡ false) → step a b r ≡ true → step b a q ≡ false
unfolding step
step_asym a b r q f h = grind (arith, nat_tests)

-- no step either way: the numbers are equal, and neither holds of the rest
step_total : (a b : ℕ) (r q : Bool) → step a b r ≡ false → step b a q ≡ false → (a ≡ b) × (r ≡ false) × (q ≡ false)
unfolding step
step_total a b r q h k = grind (arith, nat_tests)

step_trans : (a b c : ℕ) (p q r : Bool) → (p ≡ true → q ≡ true → r ≡ true) → step a b p ≡ true → step b c q ≡ true → step a c r ≡ true
unfolding step
step_trans a b c p q r f h k = grind (arith, nat_tests)

-- ---- lower as bytes is a strict total order

pub lower_asym : (a b : List ℕ) → lower a b ≡ true → lower b a ≡ false
unfolding lower step
lower_asym [] [] h = refl
lower_asym [] (y ∷ b) h = refl
lower_asym (x ∷ a) [] h = absurd (false_true h)
lower_asym (x ∷ a) (y ∷ b) h = step_asym x y (lower a b) (lower b a) (λ k. lower_asym a b k) h

pub lower_total : (a b : List ℕ) → lower a b ≡ false → lower b a ≡ false → a ≡ b
unfolding lower step
lower_total [] [] h k = refl
lower_total [] (y ∷ b) h k = absurd (false_true (sym h))
lower_total (x ∷ a) [] h k = absurd (false_true (sym k))
lower_total (x ∷ a) (y ∷ b) h k =
    let t = step_total x y (lower a b) (lower b a) h k in
    let e = t.0 in
    let f = lower_total a b t.1 t.2 in
    cc

pub lower_trans : (a b c : List ℕ) → lower a b ≡ true → lower b c ≡ true → lower a c ≡ true
unfolding lower step
lower_trans [] [] [] h k = k
lower_trans [] [] (z ∷ c) h k = refl
lower_trans (x ∷ a) [] [] h k = absurd (false_true h)
lower_trans (x ∷ a) [] (z ∷ c) h k = absurd (false_true h)
lower_trans [] (y ∷ b) [] h k = absurd (false_true k)
lower_trans [] (y ∷ b) (z ∷ c) h k = refl
lower_trans (x ∷ a) (y ∷ b) [] h k = absurd (false_true k)
lower_trans (x ∷ a) (y ∷ b) (z ∷ c) h k = step_trans x y z (lower a b) (lower b c) (lower a c) (λ p q. lower_trans a b c p q) h k

-- ---- choosing

-- e is kept over d: it is later, or as late with the lower id
over : Event → Event → Bool
over d e = step d.created_at e.created_at (lower e.id d.id)

over_asym : (d e : Event) → over d e ≡ true → over e d ≡ false
unfolding over
over_asym d e h = step_asym d.created_at e.created_at (lower e.id d.id) (lower d.id e.id) (lower_asym e.id d.id) h

over_trans : (a b c : Event) → over a b ≡ true → over b c ≡ true → over a c ≡ true
unfolding over
over_trans a b c h k =
    step_trans a.created_at b.created_at c.created_at (lower b.id a.id) (lower c.id b.id) (lower c.id a.id)
    (λ p q. lower_trans c.id b.id a.id q p) h k

-- the same created_at and the same id
pub record Tied (d e : Event) : Type 0 where
  pub time : d.created_at ≡ e.created_at
  pub id : d.id ≡ e.id

over_total : (d e : Event) → over d e ≡ false → over e d ≡ false → Tied d e
unfolding over
over_total d e h k =
    let t = step_total d.created_at e.created_at (lower e.id d.id) (lower d.id e.id) h k in
    record { time = t.0; id = lower_total d.id e.id t.2 t.1 }

keeps_over : (d e : Event) → keeps d e ≡ pick (over d e) Second First
unfolding keeps_by over step
keeps_over d e = grind (arith, nat_tests)

-- the other one
pub swapped : Kept → Kept
swapped First = Second
swapped Second = First
swapped NotRivals = NotRivals

-- Choosing is symmetric but for the full tie.
pub symmetric : (d e : Event) → (Tied d e → ⊥) → keeps e d ≡ swapped (keeps d e)
unfolding swapped
symmetric d e n = go (over d e) (over e d) refl refl
  where
    go : (t u : Bool) → over d e ≡ t → over e d ≡ u → keeps e d ≡ swapped (keeps d e)
    go true u p q = rw (keeps_over e d, keeps_over d e, p, over_asym d e p)
    go false true p q = rw (keeps_over e d, keeps_over d e, p, q)
    go false false p q = absurd (n (over_total d e p q))

-- by the order
later : Event → Event → Event
later d e = pick (over d e) e d

tied_self : {e : Event} → Tied e e
tied_self = record { time = refl; id = refl }

over_tied : (a b c : Event) → Tied a b → over a c ≡ over b c
unfolding over
over_tied a b c t = rw (t.time, t.id)

-- neither b over a nor c over b: then not c over a
over_down : (a b c : Event) → over a b ≡ false → over b c ≡ false → over a c ≡ true → ⊥
over_down a b c p q r = go (over b a) refl
  where
    go : (t : Bool) → over b a ≡ t → ⊥
    go true e = false_true (sym q ∙ over_trans b a c e r)
    go false e = false_true (sym q ∙ sym (over_tied a b c (over_total a b p e)) ∙ r)

later_free : (a b c : Event) → Tied (later (later a b) c) (later a (later b c))
unfolding later
later_free a b c = go (over a b) (over b c) (over a c) refl refl refl
  where
    go : (t u v : Bool) → over a b ≡ t → over b c ≡ u → over a c ≡ v → Tied (later (later a b) c) (later a (later b c))
    go true true v p q r = rw (p, q, over_trans a b c p q) tied_self
    go true false v p q r = rw (p, q, p) tied_self
    go false true true p q r = rw (p, q, r) tied_self
    go false true false p q r = rw (p, q, r) tied_self
    go false false true p q r = absurd (over_down a b c p q r)
    go false false false p q r = rw (p, q, r, p) tied_self

later_either : (a b : Event) → Tied (later a b) (later b a)
unfolding later
later_either a b = go (over a b) (over b a) refl refl
  where
    go : (t u : Bool) → over a b ≡ t → over b a ≡ u → Tied (later a b) (later b a)
    go true u p q = rw (p, over_asym a b p) tied_self
    go false true p q = rw (p, q) tied_self
    go false false p q = rw (p, q) (over_total a b p q)

-- that one of two events which is kept
pub chosen : Kept → Event → Event → Event
chosen First d e = d
chosen Second d e = e
chosen NotRivals d e = d

pub best : Event → Event → Event
best d e = chosen (keeps d e) d e

best_later : (d e : Event) → best d e ≡ later d e
unfolding best chosen later
best_later d e = go (over d e) refl
  where
    go : (t : Bool) → over d e ≡ t → chosen (keeps d e) d e ≡ pick (over d e) e d
    go true p = rw (keeps_over d e, p)
    go false p = rw (keeps_over d e, p)

-- Among several events with one key the order of choosing does not change the (created_at, id) that is kept.
pub order_free : (a b c : Event) → Tied (best (best a b) c) (best a (best b c))
order_free a b c = rw (best_later a b, best_later (later a b) c, best_later b c, best_later a (later b c)) (later_free a b c)

-- And it does not matter which of two comes first.
pub either_first : (a b : Event) → Tied (best a b) (best b a)
either_first a b = rw (best_later a b, best_later b a) (later_either a b)
