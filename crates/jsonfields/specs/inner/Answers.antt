-- The meaning of the code's answers, case by case. Assumes nothing.
use Rattle.std.specs.Prelude.{ℕ, Result, Ok, Err}
use Rattle.scan.specs.Choice.{Answer, Read, read}
use Rattle.event.specs.declared.Refusal.{Refusal}
use Rattle.event.specs.inner.Told.{told}
use Rattle.jsonfields.specs.inner.Spots.{field_number}
use Rattle.jsonfields.specs.declared.Field.{Field}

-- a field by its number, with the place behind its name
abbrev pub name_read : Result (Field × ℕ) Refusal → Answer (Read ℕ)
name_read (Ok x) = read (field_number x.0) x.1
name_read (Err r) = told r

-- a value that ends where it is known to end
abbrev pub up_to : {A : Type 0} → ℕ → Result A Refusal → Answer (Read A)
up_to next (Ok x) = read x next
up_to next (Err r) = told r
