-- A default for what was refused: only behind a reader that has accepted the input. Assumes nothing.
use Rattle.std.specs.Prelude.{Bool, true, false}
use Rattle.scan.specs.Choice.{Answer, shown, refused}

-- what an answer is turned into, and `other` for a refusal
abbrev pub or_else : {A B : Type 0} → B → Answer A → (A → B) → B
or_else other (shown a) f = f a
or_else other (refused n p) f = other

-- one of two tests holds
abbrev pub either : Bool → Bool → Bool
either true b = true
either false b = b
