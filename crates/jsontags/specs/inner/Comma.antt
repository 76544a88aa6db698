-- A comma before every item but the first, as the loops write it. Assumes nothing.
use Rattle.std.specs.Prelude.{ℕ, List, [], ◌∷◌, ltb}
use Rattle.scan.specs.Choice.{pick}

-- the comma in front of n items more
abbrev pub comma : ℕ → List ℕ
comma n = pick (ltb 0 n) (0x2C ∷ []) []
