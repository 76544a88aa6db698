-- The questions of an input refuse with a number of the reader's or the view's, of a versioned one with 25 too, at a
-- place in the bytes given or at their end.
-- What the reader tells of the bare bytes, whose places are at most one further on.
use Prim.{Unit, tt}
use Prim.Native.Nat.{ℕ, zero, suc, ◌+◌, ◌≤◌}
use mathlib.Core.Path.{◌≡◌, refl}
use mathlib.Core.Bool.{Bool, true, false}
use mathlib.Core.List.{List, [], ◌∷◌}
use native.Mathlib.Omega.{arith}
use lib.ListN.{length, drop}
use lib.Dec.{leb, eqb}
use Rattle.scan.specs.Choice.{Answer, shown, refused}
use Rattle.scan.specs.Place.{byte_at}
use Rattle.event.specs.inner.Tells.{among, Tells, value, refusal}
use Rattle.event.proofs.TellsLaws.{then_tells, pick_tells, all_among, wider}
use Rattle.notepack.specs.declared.Part.{Part}
use Rattle.notepack.specs.declared.Head.{Head}
use Rattle.notepack.specs.inner.Numbers.{packed_numbers}
use Rattle.notepack.specs.Unpack.{Packed, unpack}
use Rattle.notepack.specs.Views.{nth}
use Rattle.notepack.proofs.Telling.{packed_tells, unpack_tells}
use Rattle.versioned.specs.Versioned.{version_at, start_of, behind, given}
use Rattle.versioned.specs.Views.{packed_given, numbers_given, texts_given, element_given}
use Rattle.versioned.specs.Moves.{accepted, movable}
use Rattle.versioned.specs.inner.Numbers.{given_numbers, given_view_numbers}
use Rattle.versioned.proofs.Starting.{start_fits}

-- the reader's numbers are among those of an input of either form, and these among the views'
own_among : (bare : Bool) → all_among packed_numbers (given_numbers bare) ≡ true
own_among true = refl
own_among false = refl

views_among : (bare : Bool) → all_among (given_numbers bare) (given_view_numbers bare) ≡ true
views_among true = refl
views_among false = refl

-- the start
start_own : (bare : Bool) (s : List ℕ) → Tells (given_numbers bare) (length s) (λ (k : ℕ). Unit {0}) (start_of bare s)
unfolding start_of version_at
start_own true s = value tt
start_own false s =
    pick_tells (leb (length s) 65_536)
    (λ _.
    pick_tells (eqb (length s) 0) (λ _. refusal {p = 0} refl (omega arith))
    (λ _. pick_tells (eqb (byte_at s 0) 1) (λ _. value tt) (λ _. refusal {p = 0} refl (omega arith))))
    (λ _. refusal {p = 0} refl (omega arith))

-- its value is the start
start_tells : (bare : Bool) (s : List ℕ) → Tells (given_numbers bare) (length s) (λ (k : ℕ). start_of bare s ≡ shown k) (start_of bare s)
start_tells bare s = go (start_of bare s) refl (start_own bare s)
  where
    go : (x : Answer ℕ) → start_of bare s ≡ x → Tells (given_numbers bare) (length s) (λ (k : ℕ). Unit {0}) x
        → Tells (given_numbers bare) (length s) (λ (k : ℕ). start_of bare s ≡ shown k) x
    go (shown k) e h = value e
    go (refused n p) e (refusal o q) = refusal o q

module _ {A : Type 0} {P : A → Type 0} where
  -- what is told of the bytes from k on
  behind_tells : {numbers : List ℕ} {m : ℕ} (k most : ℕ) {x : Answer A} → m + k ≤ most → Tells numbers m P x → Tells numbers most P (behind k x)
  behind_tells k most l (value h) = value h
  behind_tells k most l (refusal {p = p} o h) = refusal {p = p + k} o (omega (arith, l, h))

  -- a question that tells the reader's numbers of any bytes
  pub given_tells : (bare : Bool) (f : List ℕ → Answer A) (s : List ℕ) → ((t : List ℕ) → Tells packed_numbers (length t) P (f t))
      → Tells (given_numbers bare) (length s) P (given bare f s)
  unfolding given
  given_tells bare f s h =
      then_tells _ (start_tells bare s)
      (λ k e. wider {a = packed_numbers} (own_among bare) (omega arith) (behind_tells k (length s) (start_fits bare s e) (h (drop k s))))

-- where everything stands
pub packed_given_tells : (bare : Bool) (s : List ℕ) → Tells (given_numbers bare) (length s) (λ (p : Packed). Unit {0}) (packed_given bare s)
unfolding packed_given
packed_given_tells bare s =
    then_tells _ (start_tells bare s)
    (λ k e.
    then_tells _ (wider {a = packed_numbers} (own_among bare) (omega arith) (behind_tells k (length s) (start_fits bare s e) (packed_tells (drop k s)))) (λ p _. value tt))

pub numbers_given_tells : (bare : Bool) (s : List ℕ) → Tells (given_numbers bare) (length s) (λ (h : Head). Unit {0}) (numbers_given bare s)
unfolding numbers_given
numbers_given_tells bare s = then_tells _ (packed_given_tells bare s) (λ p _. value tt)

no_such : (bare : Bool) → among (given_view_numbers bare) 19 ≡ true
no_such true = refl
no_such false = refl

nth_tells : {A : Type 0} (bare : Bool) (most i : ℕ) (l : List A) → Tells (given_view_numbers bare) most (λ (a : A). Unit {0}) (nth i l)
nth_tells bare most i [] = refusal {p = 0} (no_such bare) (omega arith)
nth_tells bare most zero (x ∷ l) = value tt
nth_tells bare most (suc i) (x ∷ l) = nth_tells bare most i l

-- the views: 19 too
pub texts_given_tells : (bare : Bool) (i : ℕ) (s : List ℕ) → Tells (given_view_numbers bare) (length s) (λ (n : ℕ). Unit {0}) (texts_given bare i s)
unfolding texts_given
texts_given_tells bare i s =
    then_tells _ (wider {a = given_numbers bare} (views_among bare) (omega arith) (packed_given_tells bare s))
    (λ p _. then_tells _ (nth_tells bare (length s) i p.tags) (λ t _. value tt))

pub element_given_tells : (bare : Bool) (i j : ℕ) (s : List ℕ) → Tells (given_view_numbers bare) (length s) (λ (p : Part). Unit {0}) (element_given bare i j s)
unfolding element_given
element_given_tells bare i j s =
    then_tells _ (wider {a = given_numbers bare} (views_among bare) (omega arith) (packed_given_tells bare s))
    (λ p _. then_tells _ (nth_tells bare (length s) i p.tags) (λ t _. nth_tells bare (length s) j t))

-- the moves, and what a reader of string forms asks
pub accepted_tells : (bare : Bool) (s : List ℕ) → Tells (given_numbers bare) (length s) (λ (b : List ℕ). Unit {0}) (accepted bare s)
unfolding accepted
accepted_tells bare s = then_tells _ (given_tells bare unpack s unpack_tells) (λ e _. value tt)

pub movable_tells : (s : List ℕ) → Tells packed_numbers (length s) (λ (b : List ℕ). Unit {0}) (movable s)
unfolding movable
movable_tells s = pick_tells (leb (length s) 65_535) (λ _. accepted_tells true s) (λ _. refusal {p = 0} refl (omega arith))
