-- The numbers that the questions of a versioned input refuse with; `proofs/Telling` shows that there are no others.
-- Assumes nothing.
use Rattle.std.specs.Prelude.{ℕ, Bool, true, false, List, ◌∷◌}
use Rattle.notepack.specs.inner.Numbers.{packed_numbers, view_numbers}

-- the reader's; of a versioned input 25 too, and of a bare one no other
abbrev pub given_numbers : Bool → List ℕ
given_numbers true = packed_numbers
given_numbers false = 25 ∷ packed_numbers

-- the views' too
abbrev pub given_view_numbers : Bool → List ℕ
given_view_numbers true = view_numbers
given_view_numbers false = 25 ∷ view_numbers
