-- The meaning of a string that is told to be plain or not. Assumes nothing.
use Rattle.std.specs.Prelude.{ℕ, Result, Ok, Err}
use Rattle.scan.specs.Choice.{Answer, Read, read}
use Rattle.event.specs.declared.Refusal.{Refusal}
use Rattle.event.specs.inner.Told.{told}
use Rattle.jsontext.specs.declared.Spelled.{Spelled}
use Rattle.jsonstring.specs.declared.Text.{Text}
use Rattle.jsonstring.specs.declared.Text.TheVariants as text

-- the string as spelled between its quotes
abbrev pub spelled_of : Text → Spelled
spelled_of (text.Plain p) = p
spelled_of (text.Other p) = p

-- the string that was read, or the refusal
abbrev pub text_read : Result (Text × ℕ) Refusal → Answer (Read Spelled)
text_read (Ok x) = read (spelled_of x.0) x.1
text_read (Err r) = told r
