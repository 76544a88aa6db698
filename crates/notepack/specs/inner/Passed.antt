-- The meaning of a pass's answer: the tally and the place behind what was passed over, or the refusal. Assumes nothing.
use Rattle.std.specs.Prelude.{Result, Ok, Err}
use Rattle.scan.specs.Choice.{Answer, Read, read}
use Rattle.event.specs.inner.Told.{told}
use Rattle.event.specs.declared.Refusal.{Refusal}
use Rattle.notepack.specs.declared.Tally.{Tally}
use Rattle.notepack.specs.declared.Passed.{Passed}

abbrev pub passed : Result Passed Refusal → Answer (Read Tally)
passed (Ok x) = read x.tally x.at
passed (Err r) = told r
