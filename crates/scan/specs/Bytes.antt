-- What holds of each element of a list; a byte string. Assumes nothing.
use Rattle.std.specs.Prelude.{ℕ, ◌<◌, List, [], ◌∷◌}

-- each element of the list has P
pub data All {A : Type 0} (P : A → Type 0) : List A → Type 0 where
  none : All P []
  also : {b : A} {l : List A} → P b → All P l → All P (b ∷ l)

-- a number that is a byte
abbrev pub Byte : ℕ → Type 0
Byte b = b < 256

-- a byte string
abbrev pub IsBytes : List ℕ → Type 0
IsBytes = All Byte
