-- The id question (rules 16): whether the id of the event that is shown is the SHA-256 of its canonical text.
-- Assumes nothing.
use Rattle.std.specs.Prelude.{ℕ, Bool, List}
use Rattle.scan.specs.Choice.{Answer, shown, and_then}
use Rattle.scan.specs.Compare.{same_bytes}
use Rattle.notepack.specs.Unpack.{unpack}
use Rattle.canonical.specs.Canonical.{canonical}
use Rattle.sha256.specs.Message.{digest}

-- yes or no; where the reader refuses, what it refuses with
unfoldable pub belongs : List ℕ → Answer Bool
belongs s = and_then (unpack s) λ e. shown (same_bytes e.id (digest (canonical e)))
