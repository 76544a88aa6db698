-- Byte strings compared: whether they are the same, and which is the lower. Assumes nothing.
use Rattle.std.specs.Prelude.{ℕ, Bool, true, false, List, [], ◌∷◌, ltb, eqb}
use Rattle.scan.specs.Choice.{pick}

-- the same, byte for byte
unfoldable pub same_bytes : List ℕ → List ℕ → Bool
same_bytes [] [] = true
same_bytes [] (b ∷ l) = false
same_bytes (a ∷ k) [] = false
same_bytes (a ∷ k) (b ∷ l) = pick (eqb a b) (same_bytes k l) false

-- lower as bytes: the first difference decides, and a beginning is lower than what it begins
unfoldable pub lower : List ℕ → List ℕ → Bool
lower [] [] = false
lower [] (b ∷ l) = true
lower (a ∷ k) [] = false
lower (a ∷ k) (b ∷ l) = pick (ltb a b) true (pick (eqb a b) (lower k l) false)
