-- Where the event of a slot stands in the lent cells (rules 15). Assumes nothing.
use Rattle.std.specs.Prelude.{ℕ, List, length}
use Rattle.scan.specs.Choice.{Answer, shown, refused, and_then}
use Rattle.notepack.specs.Strict.{pack}
use Rattle.notepack.specs.Views.{nth}
use Rattle.slots.specs.declared.Slot.{Slot}
use Rattle.archive.specs.Archive.{Entry, free, held}
use Rattle.table.specs.Cells.{cell_start}
use Rattle.table.specs.Table.{entries_of}

pub record Stand : Type 0 where
  pub at : ℕ
  pub len : ℕ

-- the event of slot n, and 19 where it is free
abbrev pub standing : ℕ → Entry → Answer Stand
standing n free = refused 19 0
standing n (held e) = shown (record { at = cell_start n; len = length (pack e) })

-- 34; then 19 where there is no slot n, or it is free
unfoldable pub stand_of : List Slot → List ℕ → ℕ → Answer Stand
stand_of slots cells n =
    and_then (entries_of slots cells) λ s.
    and_then (nth n s) λ x.
    standing n x
