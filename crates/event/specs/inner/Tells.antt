-- What a question may answer: a value, or a refusal with one of its own numbers at a place that does not pass the
-- input's end. Assumes nothing.
use Rattle.std.specs.Prelude.{ℕ, ◌≤◌, ◌≡◌, Bool, true, false, List, [], ◌∷◌, eqb}
use Rattle.scan.specs.Choice.{pick, Answer, shown, refused}

-- whether a number stands in a list
abbrev pub among : List ℕ → ℕ → Bool
among [] n = false
among (k ∷ l) n = pick (eqb n k) true (among l n)

-- a value that has P, or a refusal with one of the numbers at a place from 0 to `most`
pub data Tells {A : Type 0} (numbers : List ℕ) (most : ℕ) (P : A → Type 0) : Answer A → Type 0 where
  value : {a : A} → P a → Tells numbers most P (shown a)
  refusal : {n p : ℕ} → among numbers n ≡ true → p ≤ most → Tells numbers most P (refused n p)
