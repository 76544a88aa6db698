-- The numbers that the reader of string forms refuses with; `proofs/Telling` shows that there are no others. Assumes
-- nothing.
use Rattle.std.specs.Prelude.{ℕ, Bool, List, ◌∷◌}
use Rattle.versioned.specs.inner.Numbers.{given_numbers}

-- its own two, and those of the notepack reader; of the versioned form 25 too
abbrev pub string_numbers : Bool → List ℕ
string_numbers bare = 20 ∷ 21 ∷ given_numbers bare
