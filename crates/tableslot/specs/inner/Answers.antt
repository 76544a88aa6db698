-- The meaning of the code's answers, case by case. Assumes nothing.
use Rattle.std.specs.Prelude.{ℕ, Result, Ok, Err, List, [], take, drop}
use Rattle.scan.specs.Choice.{Answer, shown, refused}
use Rattle.event.specs.inner.Told.{told}
use Rattle.event.specs.declared.Refusal.{Refusal}
use Rattle.table.specs.Standing.{Stand}
use Rattle.tableread.specs.declared.Known.{Known}
use Rattle.tableread.specs.declared.Known.TheVariants.{Free, Bad, Good}

-- where it stands, or the refusal
abbrev pub slot_read : Result (ℕ × ℕ) Refusal → Answer Stand
slot_read (Ok x) = shown (record { at = x.0; len = x.1 })
slot_read (Err r) = told r

-- a slot that is known: where its event stands
abbrev pub known_stand : Known → Answer Stand
known_stand Free = refused 19 0
known_stand Bad = refused 19 0
known_stand (Good a) = shown (record { at = a.at; len = a.len })

-- the bytes that stand there, and none where it was refused
abbrev pub stand_bytes : List ℕ → Answer Stand → List ℕ
stand_bytes cells (shown p) = take p.len (drop p.at cells)
stand_bytes cells (refused n p) = []
