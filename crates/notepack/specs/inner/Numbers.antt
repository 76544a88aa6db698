-- The numbers that the reader and the views refuse with; `proofs/Telling` shows that there are no others. Assumes
-- nothing.
use Rattle.std.specs.Prelude.{ℕ, List, [], ◌∷◌}

-- the numbers of its refusals: 1 to 10, and 24
abbrev pub packed_numbers : List ℕ
packed_numbers = 1 ∷ 2 ∷ 3 ∷ 4 ∷ 5 ∷ 6 ∷ 7 ∷ 8 ∷ 9 ∷ 10 ∷ 24 ∷ []

-- the numbers of a view's refusals: the reader's, and 19
abbrev pub view_numbers : List ℕ
view_numbers = 19 ∷ packed_numbers
