-- The laws of `puts`: what is written in parts is written whole, and what fits is there from the start with the rest
-- unchanged.
-- `Wrote` goes by composition with no condition on room; `Left` is a loop's invariant, what is still to be written.
use Prim.Native.Nat.{ℕ, zero, suc, ◌+◌, ◌-◌, ◌<◌, ◌≤◌, min}
use mathlib.Core.Path.{◌≡◌, refl, sym, ap, ◌∙◌}
use mathlib.Core.Bool.{Bool, true, false}
use mathlib.Core.List.{List, [], ◌∷◌, ◌++◌}
use mathlib.Core.Logic.{dite}
use native.Mathlib.Nat.{add-zero}
use native.Mathlib.Numerals.{add-one}
use native.Mathlib.Omega.{arith}
use native.Mathlib.Decide.{dec_lt}
use lib.ListN.{length, set, take, drop, length-set}
use lib.Seq.{sets, sets-eq}
use Rattle.std.proofs.lemmas.List.{take_min}
use lib.Dec.{ltb}
use borrow.Author.Tests.{lt-ltb, le-ltb}
use Rattle.scan.specs.Choice.{pick}
use Rattle.buffer.specs.inner.Store.{Buffer, put, puts, Wrote}

-- on the way: writing `left` to d' at o completes what writing `all` to d at `at` makes
pub record Left (d : List ℕ) (at : ℕ) (all : List ℕ) (d' : List ℕ) (o : ℕ) (left : List ℕ) : Type 0 where
  pub is : puts (d', o) left ≡ puts (d, at) all

-- ---- with no condition

-- composition
pub puts_append : (b : Buffer) (x y : List ℕ) → puts (puts b x) y ≡ puts b (x ++ y)
puts_append b [] y = refl
puts_append b (v ∷ x) y = puts_append (put b v) x y

pub then : {d : List ℕ} {at : ℕ} {x d₁ : List ℕ} {r₁ : ℕ} {y d₂ : List ℕ} {r₂ : ℕ}
    → Wrote d at x d₁ r₁ → Wrote d₁ r₁ y d₂ r₂ → Wrote d at (x ++ y) d₂ r₂
then {d} {at} {x} {d₁} {r₁} {y} u v = record { is = v.is ∙ ap (λ (b : Buffer). puts b y) u.is ∙ puts_append (d, at) x y }

length_put : (b : Buffer) (v : ℕ) → length (put b v).0 ≡ length b.0
length_put b v = by_cases (ltb b.1 (length b.0))
  where
    by_cases : (t : Bool) → length (pick t (set b.0 b.1 v, b.1 + 1) b).0 ≡ length b.0
    by_cases true = length-set b.0 b.1 v
    by_cases false = refl

pub length_puts : (b : Buffer) (vs : List ℕ) → length (puts b vs).0 ≡ length b.0
length_puts b [] = refl
length_puts b (v ∷ vs) = length_puts (put b v) vs ∙ length_put b v

-- a writer keeps the buffer's length
pub kept : {d : List ℕ} {at : ℕ} {vs d' : List ℕ} {r : ℕ} → Wrote d at vs d' r → length d' ≡ length d
kept {d} {at} {vs} w = ap (λ (b : Buffer). length b.0) w.is ∙ length_puts (d, at) vs

-- ---- with room, and without

pub put_room : (d : List ℕ) (at v : ℕ) → at < length d → put (d, at) v ≡ (set d at v, at + 1)
put_room d at v h = simp (lt-ltb at (length d) h)

pub put_full : (d : List ℕ) (at v : ℕ) → length d ≤ at → put (d, at) v ≡ (d, at)
put_full d at v h = simp (le-ltb at (length d) h)

pub puts_full : (d : List ℕ) (at : ℕ) (vs : List ℕ) → length d ≤ at → puts (d, at) vs ≡ (d, at)
puts_full d at [] h = refl
puts_full d at (v ∷ vs) h = rw (put_full d at v h) (puts_full d at vs h)

-- what is behind the buffer's end does not matter
puts_take : (n : ℕ) (d : List ℕ) (at : ℕ) (vs : List ℕ) → length d ≤ at + n → puts (d, at) (take n vs) ≡ puts (d, at) vs
puts_take zero d at vs h = sym (puts_full d at vs (omega arith))
puts_take (suc n) d at [] h = refl
puts_take (suc n) d at (v ∷ vs) h =
    dite (dec_lt at (length d))
    (λ p.
    let e = put_room d at v p in
    let k = puts_take n (set d at v) (at + 1) vs (omega (arith, length-set d at v)) in
    ap (λ (b : Buffer). puts b (take n vs)) e ∙ k ∙ sym (ap (λ (b : Buffer). puts b vs) e))
    (λ q.
    let f : length d ≤ at = omega (arith, q) in
    puts_full d at (v ∷ take n vs) f ∙ sym (puts_full d at (v ∷ vs) f))

puts_sets : (d : List ℕ) (at : ℕ) (vs : List ℕ) → at + length vs ≤ length d → puts (d, at) vs ≡ (sets d at vs, at + length vs)
puts_sets d at [] h = ap (λ (j : ℕ). (d, j)) (sym (add-zero at))
puts_sets d at (v ∷ vs) h =
    let e : suc at + length vs ≡ at + suc (length vs) = omega arith in
    ap (λ (b : Buffer). puts b vs) (put_room d at v (omega arith))
    ∙ ap (λ (j : ℕ). puts (set d at v, j) vs) (add-one at)
    ∙ puts_sets (set d at v) (suc at) vs (omega (arith, length-set d at v))
    ∙ ap (λ (j : ℕ). (sets (set d at v) (suc at) vs, j)) e

-- the reader's form: the bytes from `at` are vs, and every other byte is as it was
pub puts_eq : (d : List ℕ) (at : ℕ) (vs : List ℕ) → at + length vs ≤ length d → puts (d, at) vs ≡ (take at d ++ vs ++ drop (at + length vs) d, at + length vs)
puts_eq d at vs h = puts_sets d at vs h ∙ ap (λ (l : List ℕ). (l, at + length vs)) (sets-eq vs d at h)

-- ---- a writer of one byte, with room and without; and of nothing

pub stored : {d : List ℕ} {at v : ℕ} → at < length d → Wrote d at (v ∷ []) (set d at v) (at + 1)
stored {d} {at} {v} h = record { is = sym (put_room d at v h) }

pub full : {d : List ℕ} {at : ℕ} {vs : List ℕ} → length d ≤ at → Wrote d at vs d at
full {d} {at} {vs} h = record { is = sym (puts_full d at vs h) }

pub nothing : {d : List ℕ} {at : ℕ} → Wrote d at [] d at
nothing = record { is = refl }

-- a text of which no more than the room is written
pub cut : {d : List ℕ} {at : ℕ} {vs d' : List ℕ} {r : ℕ} → Wrote d at (take (length d - at) vs) d' r → Wrote d at vs d' r
cut {d} {at} {vs} w = record { is = w.is ∙ puts_take (length d - at) d at vs (omega arith) }

-- as much of a text as there is room for
pub cut_min : {d : List ℕ} {at : ℕ} {s d' : List ℕ} {r m : ℕ} → m ≡ min (length d - at) (length s) → Wrote d at (take m s) d' r
    → Wrote d at s d' r
cut_min {d} {at} {s} e w = cut (rw (e, take_min (length d - at) s) at w)

-- ---- a loop: it begins, it stores a byte where there is room, it calls a writer, it is done

pub start : {d : List ℕ} {at : ℕ} {all : List ℕ} → Left d at all d at all
start = record { is = refl }

pub byte : {d : List ℕ} {at : ℕ} {all d' : List ℕ} {o v : ℕ} {left : List ℕ}
    → o < length d' → Left d at all d' o (v ∷ left) → Left d at all (set d' o v) (o + 1) left
byte {d} {at} {all} {d'} {o} {v} {left} h l = record { is = sym (ap (λ (b : Buffer). puts b left) (put_room d' o v h)) ∙ l.is }

pub part : {d : List ℕ} {at : ℕ} {all d' : List ℕ} {o : ℕ} {vs left d'' : List ℕ} {o' : ℕ}
    → Left d at all d' o (vs ++ left) → Wrote d' o vs d'' o' → Left d at all d'' o' left
part {d} {at} {all} {d'} {o} {vs} {left} l w = record { is = ap (λ (b : Buffer). puts b left) w.is ∙ puts_append (d', o) vs left ∙ l.is }

-- it calls put_byte
pub one : {d : List ℕ} {at : ℕ} {all d' : List ℕ} {o v : ℕ} {left d'' : List ℕ} {o' : ℕ}
    → Left d at all d' o (v ∷ left) → Wrote d' o (v ∷ []) d'' o' → Left d at all d'' o' left
one {left = left} l w = record { is = ap (λ (b : Buffer). puts b left) w.is ∙ l.is }

pub done : {d : List ℕ} {at : ℕ} {all d' : List ℕ} {o : ℕ} → Left d at all d' o [] → Wrote d at all d' o
done l = record { is = l.is }

-- what is left, written another way
pub also : {d : List ℕ} {at : ℕ} {all d' : List ℕ} {o : ℕ} {left other : List ℕ} → left ≡ other → Left d at all d' o left → Left d at all d' o other
also {d' = d'} {o = o} e l = record { is = sym (ap (λ (vs : List ℕ). puts (d', o) vs) e) ∙ l.is }

-- the last part of a run
pub finish : {d : List ℕ} {at : ℕ} {all d' : List ℕ} {o : ℕ} {vs d'' : List ℕ} {o' : ℕ}
    → Left d at all d' o vs → Wrote d' o vs d'' o' → Wrote d at all d'' o'
finish l w = record { is = w.is ∙ l.is }

-- the buffer's length does not change on the way
pub same : {d : List ℕ} {at : ℕ} {all d' : List ℕ} {o : ℕ} {left : List ℕ} → Left d at all d' o left → length d' ≡ length d
same {d} {at} {all} {d'} {o} {left} l = sym (length_puts (d', o) left) ∙ ap (λ (b : Buffer). length b.0) l.is ∙ length_puts (d, at) all

-- ---- an array filled from the back

drop_set : (l : List ℕ) (j v : ℕ) → j < length l → drop j (set l j v) ≡ v ∷ drop (suc j) l
drop_set [] j v h = absurd (omega arith)
drop_set (x ∷ l) zero v h = refl
drop_set (x ∷ l) (suc j) v h = drop_set l j v (omega arith)

append_one : (a : List ℕ) (v : ℕ) (b : List ℕ) → a ++ (v ∷ []) ++ b ≡ a ++ (v ∷ b)
append_one [] v b = refl
append_one (x ∷ a) v b = ap (λ (l : List ℕ). x ∷ l) (append_one a v b)

-- a store of the last byte of what is left, at the code's k - 1
pub back : (left : List ℕ) (v k : ℕ) (l all : List ℕ) → 0 < k → k ≤ length l → left ++ (v ∷ []) ++ drop k l ≡ all → left ++ drop (k - 1) (set l (k - 1) v) ≡ all
back left v k l all h m e =
    let j : suc (k - 1) ≡ k = omega arith in
    ap (λ (t : List ℕ). left ++ t) (drop_set l (k - 1) v (omega arith) ∙ ap (λ (i : ℕ). v ∷ drop i l) j) ∙ sym (append_one left v (drop k l)) ∙ e
