-- The numbers that reading over a value refuses with; `proofs/Telling` shows that there are no others. Assumes nothing.
use Rattle.std.specs.Prelude.{ℕ, List, [], ◌∷◌}

-- the numbers that the reading over a value refuses with
abbrev pub value_numbers : List ℕ
value_numbers = 5 ∷ 14 ∷ 18 ∷ []
