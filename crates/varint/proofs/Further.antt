-- A varint reads the same behind k bytes in front of it: its value stays, every place is k further on.
-- The bytes from `at + k` on are those from `at` on of what stands behind the k bytes.
use Prim.Native.Nat.{ℕ, ◌+◌}
use mathlib.Core.Path.{◌≡◌, refl, sym, ap, ◌∙◌}
use mathlib.Core.Bool.{Bool, true, false}
use mathlib.Core.List.{List}
use native.Mathlib.Omega.{arith}
use lib.ListN.{length, drop, length-drop}
use lib.Seq.{drop-drop}
use lib.Dec.{ltb}
use borrow.Author.Tests.{lt-ltb, le-ltb, ltb-true, ltb-false}
use Rattle.scan.specs.Choice.{pick, Answer, shown, refused, Read, read}
use Rattle.varint.specs.Varint.{Spelled, number, padded, over, cut, spelled, answered, varint_at}

-- a read k bytes further on
abbrev pub further : {A : Type 0} → (A → A) → ℕ → Answer (Read A) → Answer (Read A)
further f k (shown r) = read (f r.value) (r.next + k)
further f k (refused n p) = refused n (p + k)

-- the bytes from a place on
pub drop_further : (k : ℕ) (s : List ℕ) (at : ℕ) → drop (at + k) s ≡ drop at (drop k s)
drop_further k s at = let e : at + k ≡ k + at = omega arith in ap (λ (j : ℕ). drop j s) e ∙ sym (drop-drop at k s)

-- whether a place is in the input
pub in_further : (k : ℕ) (s : List ℕ) (at : ℕ) → ltb (at + k) (length s) ≡ ltb at (length (drop k s))
in_further k s at = go (ltb at (length (drop k s))) refl
  where
    go : (b : Bool) → ltb at (length (drop k s)) ≡ b → ltb (at + k) (length s) ≡ b
    go true e = lt-ltb (at + k) (length s) (omega (arith, ltb-true at (length (drop k s)) e, length-drop k s))
    go false e = le-ltb (at + k) (length s) (omega (arith, ltb-false at (length (drop k s)) e, length-drop k s))

pub varint_further : (k : ℕ) (s : List ℕ) (at : ℕ) → varint_at s (at + k) ≡ further (λ (n : ℕ). n) k (varint_at (drop k s) at)
unfolding varint_at
varint_further k s at = rw (drop_further k s at, in_further k s at) (go (ltb at (length (drop k s))) (spelled 9 (drop at (drop k s))))
  where
    go : (b : Bool) (x : Spelled)
        → pick b (answered (at + k) x) (refused 2 (at + k)) ≡ further (λ (n : ℕ). n) k (pick b (answered at x) (refused 2 at))
    go true (number n w) = let e : at + k + w ≡ at + w + k = omega arith in ap (λ (j : ℕ). read n j) e
    go true padded = refl
    go true over = refl
    go true cut = refl
    go false x = refl
