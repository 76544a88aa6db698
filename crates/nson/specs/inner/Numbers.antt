-- The numbers that the NSON reader refuses with; `proofs/Telling` shows that there are no others. Assumes nothing.
use Rattle.std.specs.Prelude.{ℕ, List, [], ◌∷◌}

-- the numbers of refusal that the NSON reader has
abbrev pub nson_numbers : List ℕ
nson_numbers = 1 ∷ 5 ∷ 6 ∷ 9 ∷ 10 ∷ 12 ∷ 13 ∷ 14 ∷ []
