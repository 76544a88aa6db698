-- The strict question: whether packed bytes are the strict form of the event that they show (rules 3).
-- Assumes nothing.
use Rattle.std.specs.Prelude.{ℕ, Bool, List}
use Rattle.scan.specs.Choice.{Answer, shown, and_then}
use Rattle.scan.specs.Compare.{same_bytes}
use Rattle.notepack.specs.Strict.{pack}
use Rattle.notepack.specs.Unpack.{unpack}

-- the answer, yes or no; where the reader refuses, what it refuses with
unfoldable pub strict : List ℕ → Answer Bool
strict s = and_then (unpack s) λ e. shown (same_bytes s (pack e))
