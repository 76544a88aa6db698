-- The meaning of the code's answer. Assumes nothing.
use Rattle.std.specs.Prelude.{ℕ, Result, Ok, Err}
use Rattle.event.specs.declared.Refusal.{Refusal}
use Rattle.event.specs.inner.Told.{told}
use Rattle.jsontext.specs.Token.{Skipped, past}

-- the place behind what was read over, or the refusal
abbrev pub skipped : Result ℕ Refusal → Skipped
skipped (Ok next) = past next
skipped (Err r) = told r
