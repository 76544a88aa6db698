-- The meaning of the code's answers, case by case. Assumes nothing.
use Prim.{Unit, tt}
use Rattle.std.specs.Prelude.{ℕ, ℤ, ◌≡◌, length, Option, Some, None, Result, Ok, Err}
use Rattle.scan.specs.Choice.{Answer, shown}
use Rattle.event.specs.inner.Told.{told}
use Rattle.event.specs.declared.Refusal.{Refusal}
use Rattle.notepack.specs.declared.Part.{Part}
use Rattle.pointer.specs.Pointer.{Form}
use Rattle.pointfields.specs.inner.Answers.{number_of}
use Rattle.pointread.specs.declared.Outline.{Outline}

-- what is told of a form: all fields, and of the tags how many they are
pub record Fields : Type 0 where
  pub version : ℕ
  pub kind : ℕ
  pub time : ℤ
  pub content : Part
  pub tag_count : ℕ

abbrev pub fields_of : Form → Fields
fields_of f = record { version = f.version; kind = f.kind; time = f.time; content = f.content; tag_count = length f.tags }

-- what an outline tells
abbrev pub fields_in : Outline → Fields
fields_in o = record { version = number_of o.version; kind = o.kind; time = o.time.0; content = o.content; tag_count = o.tag_count }

abbrev pub outline_read : Result Outline Refusal → Answer Fields
outline_read (Ok o) = shown (fields_in o)
outline_read (Err r) = told r

-- nothing is wrong, or the refusal
abbrev pub checked : Result (Unit {0}) Refusal → Answer (Unit {0})
checked (Ok u) = shown tt
checked (Err r) = told r

-- what a plain walk says is so; one that was given up says nothing
abbrev pub Says : Result (Option ℕ) Refusal → Answer (Unit {0}) → Type 0
Says (Ok (Some n)) a = a ≡ shown tt
Says (Ok None) a = Unit {0}
Says (Err r) a = a ≡ told r
