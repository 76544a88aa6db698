-- The numbers that the reader of the pointer form refuses with, and the questions and the converting above it;
-- `proofs/Telling` and `proofs/ViewTelling` show that there are no others. Assumes nothing.
use Rattle.std.specs.Prelude.{ℕ, List, [], ◌∷◌}

-- 7 is not among them: no signed number of 64 bits, in milliseconds, says a second past its limit
abbrev pub pointer_numbers : List ℕ
pointer_numbers = 1 ∷ 5 ∷ 6 ∷ 8 ∷ 9 ∷ 26 ∷ 27 ∷ 28 ∷ []

-- the numbers of a question about a form: the reader's, and 19
abbrev pub question_numbers : List ℕ
question_numbers = 19 ∷ pointer_numbers

-- the numbers of converting: the reader's, and 29
abbrev pub converting_numbers : List ℕ
converting_numbers = 29 ∷ pointer_numbers
