-- What the C entries answer and leave, in the words of the crates below. Assumes nothing.
use Rattle.std.specs.Prelude.{ℕ, Bool, not, eqb}
use Rattle.rivals.specs.declared.Kept.{Kept}
use Rattle.rivals.specs.declared.Kept.TheVariants.{First, Second, NotRivals}
use Rattle.archive.specs.declared.Outcome.{Outcome}
use Rattle.archive.specs.declared.Outcome.TheVariants.{New, Replaced, Loses, Held, NotKept}
use Rattle.scan.specs.Choice.{pick, Answer, shown, refused, and_then}
use Rattle.rivals.specs.Rivals.{Chosen, chosen, first_refused, second_refused}

-- the caller's word whether a packed input is bare: 0 is no, any other number yes
abbrev pub is_bare : ℕ → Bool
is_bare bare = not (eqb bare 0)

-- an answer that says nothing but that it is one
abbrev pub ok : {A : Type 0} → Answer A → Answer ℕ
ok r = and_then r λ a. shown 0

-- yes is 1, no is 0
abbrev pub yes_no : Answer Bool → Answer ℕ
yes_no r = and_then r λ b. shown (pick b 1 0)

-- a lent number: what the answer has for it, and on a refusal as it was
abbrev pub lent : {A : Type 0} → Answer A → (A → ℕ) → ℕ → ℕ
lent (shown a) f old = f a
lent (refused n p) f old = old

-- not rivals is 0, keep the first 1, keep the second 2
abbrev pub kept_number : Kept → ℕ
kept_number NotRivals = 0
kept_number First = 1
kept_number Second = 2

-- which is kept, or the refusal of whichever input is refused
abbrev pub kept_answer : Chosen → Answer ℕ
kept_answer (chosen k) = shown (kept_number k)
kept_answer (first_refused n p) = refused n p
kept_answer (second_refused n p) = refused n p

-- what an offer comes to: new is 0, replaced 1, loses 2, held 3, not kept 4
abbrev pub outcome_number : Outcome → ℕ
outcome_number New = 0
outcome_number Replaced = 1
outcome_number Loses = 2
outcome_number Held = 3
outcome_number NotKept = 4

abbrev pub outcome_told : Answer Outcome → Answer ℕ
outcome_told a = and_then a λ r. shown (outcome_number r)
