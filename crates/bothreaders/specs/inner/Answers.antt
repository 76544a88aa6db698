-- The meaning of the code's answer: which readers show the event and its length, or the refusal. Assumes nothing.
use Rattle.std.specs.Prelude.{ℕ, Result, Ok, Err}
use Rattle.scan.specs.Choice.{Answer, shown}
use Rattle.event.specs.declared.Refusal.{Refusal}
use Rattle.event.specs.inner.Told.{told}
use Rattle.bothreaders.specs.declared.Readers.{Readers}
use Rattle.bothreaders.specs.declared.Readers.TheVariants.{JsonAlone, Both}
use Rattle.bothreaders.specs.Both.{Compared}

abbrev pub number_of : Readers → ℕ
number_of JsonAlone = 1
number_of Both = 2

abbrev pub both_read : Result (Readers × ℕ) Refusal → Answer Compared
both_read (Ok x) = shown (record { which = number_of x.0; len = x.1 })
both_read (Err r) = told r
