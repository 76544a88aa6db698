-- The numbers that the plain JSON reader refuses with; `proofs/Telling` shows that there are no others. Assumes
-- nothing.
use Rattle.std.specs.Prelude.{ℕ, List, [], ◌∷◌}

-- the numbers that it refuses with
abbrev pub json_numbers : List ℕ
json_numbers = 1 ∷ 5 ∷ 6 ∷ 7 ∷ 8 ∷ 9 ∷ 10 ∷ 12 ∷ 14 ∷ 15 ∷ 16 ∷ 18 ∷ []
