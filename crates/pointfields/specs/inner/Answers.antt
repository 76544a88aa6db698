-- The number of a version, and the meaning of the code's answers. Assumes nothing.
use Rattle.std.specs.Prelude.{ℕ, ℤ, Result, Ok, Err}
use Rattle.scan.specs.Choice.{Answer, shown}
use Rattle.moment.specs.declared.Millis.{Millis}
use Rattle.event.specs.inner.Told.{told}
use Rattle.event.specs.declared.Refusal.{Refusal}
use Rattle.pointfields.specs.declared.FormVersion.{FormVersion}
use Rattle.pointfields.specs.declared.FormVersion.TheVariants.{V0, V1}

-- the number that a header has for a version
abbrev pub number_of : FormVersion → ℕ
number_of V0 = 0
number_of V1 = 1

abbrev pub version_read : Result FormVersion Refusal → Answer ℕ
version_read (Ok v) = shown (number_of v)
version_read (Err r) = told r

abbrev pub time_read : Result Millis Refusal → Answer ℤ
time_read (Ok m) = shown m.0
time_read (Err r) = told r
