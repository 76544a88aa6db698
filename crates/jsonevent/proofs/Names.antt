-- The seven names and their numbers: a text has the number k exactly if it is the name of field k, and 7 exactly if it
-- is none of the seven.
-- By the steps of `index_in`; that the seven differ from each other is found by computation.
use Prim.Native.Nat.{ℕ, zero, suc, ◌<◌}
use mathlib.Core.Path.{◌≡◌, refl, sym}
use mathlib.Core.List.{List, [], ◌∷◌}
use native.Mathlib.Omega.{arith}
use lib.ListN.{length, get_or}
use Rattle.scan.proofs.Step.{pick_by}
use Rattle.scan.specs.Compare.{same_bytes}
use Rattle.event.specs.Event.{Text}
use Rattle.scan.proofs.CompareLaws.{same_same, bytes_same}
use Rattle.jsonevent.specs.Meaning.{names, OneOf, first, later}
use Rattle.jsonevent.specs.Field.{index_in, field_of}

-- the name of field number k
abbrev pub name : ℕ → Text
name k = get_or names k []

-- ---- a name in a list

-- what is found in a list stands at its number
index_there : (l : List Text) (t : Text) → index_in l t < length l → get_or l (index_in l t) [] ≡ t
unfolding index_in
index_there [] t h = absurd (omega arith)
index_there (n ∷ l) t h =
    pick_by (λ (i : ℕ). i < suc (length l) → get_or (n ∷ l) i [] ≡ t) (same_bytes t n) (λ e k. sym (bytes_same t n e)) (λ e k. index_there l t (omega arith)) h

-- and is one of the list
index_one : (l : List Text) (t : Text) → index_in l t < length l → OneOf l t
unfolding index_in
index_one [] t h = absurd (omega arith)
index_one (n ∷ l) t h =
    pick_by (λ (i : ℕ). i < suc (length l) → OneOf (n ∷ l) t) (same_bytes t n) (λ e k. rw (bytes_same t n e) first) (λ e k. later (index_one l t (omega arith))) h

-- one of the list is found
one_index : {l : List Text} {t : Text} → OneOf l t → index_in l t < length l
unfolding index_in
one_index (first {t = t} {l = l}) = rw (same_same t) (omega arith)
one_index (later {t = t} {u = u} {l = l} o) =
    pick_by (λ (i : ℕ). i < suc (length l)) (same_bytes t u) (λ e. omega arith) (λ e. omega (arith, one_index o))

-- ---- the seven

-- a name of the seven has a number below 7
pub known_number : {t : Text} → OneOf names t → field_of t < 7
unfolding field_of
known_number o = one_index o

-- and only such a name
pub number_known : (t : Text) → field_of t < 7 → OneOf names t
unfolding field_of
number_known t h = index_one names t h

-- a text whose number is below 7 is the name of that number
pub number_name : (t : Text) → field_of t < 7 → name (field_of t) ≡ t
unfolding field_of
number_name t h = index_there names t h

-- what holds of 0 to 6 holds of every number below 7
pub by_seven : (P : ℕ → Type 0) → P 0 → P 1 → P 2 → P 3 → P 4 → P 5 → P 6 → (k : ℕ) → k < 7 → P k
by_seven P a b c d e f g zero h = a
by_seven P a b c d e f g (suc zero) h = b
by_seven P a b c d e f g (suc (suc zero)) h = c
by_seven P a b c d e f g (suc (suc (suc zero))) h = d
by_seven P a b c d e f g (suc (suc (suc (suc zero)))) h = e
by_seven P a b c d e f g (suc (suc (suc (suc (suc zero))))) h = f
by_seven P a b c d e f g (suc (suc (suc (suc (suc (suc zero)))))) h = g
by_seven P a b c d e f g (suc (suc (suc (suc (suc (suc (suc k))))))) h = absurd (omega arith)

-- the name of field k has the number k
pub name_number : (k : ℕ) → k < 7 → field_of (name k) ≡ k
unfolding field_of index_in same_bytes
name_number = by_seven (λ (k : ℕ). field_of (name k) ≡ k) refl refl refl refl refl refl refl
