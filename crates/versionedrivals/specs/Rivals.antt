-- Which of two records is kept, each of either form (rules 8 and 17): every refusal of the first, 25 included, comes
-- before any of the second. Assumes nothing.
use Rattle.std.specs.Prelude.{ℕ, Bool, List}
use Rattle.notepack.specs.Unpack.{unpack}
use Rattle.rivals.specs.Rivals.{Chosen, chooses}
use Rattle.versioned.specs.Versioned.{given}

-- the first input and whether it is bare, the second and whether it is
unfoldable pub rivals_given : List ℕ → Bool → List ℕ → Bool → Chosen
rivals_given s b t c = chooses (given b unpack s) (given c unpack t)
