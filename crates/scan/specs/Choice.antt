-- How a definition chooses and goes on: `pick` by a test, `Answer` for what a reader tells, `and_then` for one read
-- after another. Assumes nothing.
use Rattle.std.specs.Prelude.{ℕ, zero, suc, Bool, true, false, List, [], ◌∷◌}

-- the choice by a test
abbrev pub pick : {A : Type 0} → Bool → A → A → A
pick true a b = a
pick false a b = b

-- What a reader tells: a value, or a refusal by its number and its place (rules 10).
pub data Answer (A : Type 0) : Type 0 where
  shown : A → Answer A
  refused : (number place : ℕ) → Answer A

-- a value read at a place, and the place behind it
pub record Read (A : Type 0) : Type 0 where
  pub value : A
  pub next : ℕ

-- the answer of a read that took a value
abbrev pub read : {A : Type 0} → A → ℕ → Answer (Read A)
read a next = shown (record { value = a; next = next })

-- what is done with the value, unless it was refused: the first refusal is the answer
abbrev pub and_then : {A B : Type 0} → Answer A → (A → Answer B) → Answer B
and_then (shown a) f = f a
and_then (refused n p) f = refused n p

-- n reads, one after the other, as one read of a list
unfoldable pub many : {A : Type 0} → (ℕ → Answer (Read A)) → ℕ → ℕ → Answer (Read (List A))
many item zero at = read [] at
many item (suc n) at =
    and_then (item at) λ x.
    and_then (many item n x.next) λ xs.
    read (x.value ∷ xs.value) xs.next
