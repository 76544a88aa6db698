-- Where the bytes of a slot stand in the lent cells (rules 15): slot i has the 1,024 bytes from 1,024 i on.
-- Assumes nothing.
use Rattle.std.specs.Prelude.{ℕ, suc, ◌+◌, ◌*◌, List, [], ◌∷◌, ◌++◌, length, take, drop, eqb, leb}
use Rattle.scan.specs.Choice.{pick}
use Rattle.slots.specs.declared.Slot.{Slot}

abbrev pub cell_start : ℕ → ℕ
cell_start i = 1_024 * i

-- what a slot names: nothing where it is free, else bytes of its cell, if they do not pass its end
pub data Cell : Type 0 where
  empty : Cell
  past : Cell
  bytes : List ℕ → Cell

-- the cell of slot i; a mark of 0 is a free slot, any other a used one
unfoldable pub cell_at : List ℕ → ℕ → Slot → Cell
cell_at cells i s = pick (eqb s.mark 0) empty (pick (leb s.len 1_024) (bytes (take s.len (drop (cell_start i) cells))) past)

-- the cells of slots, the first of which is number i
abbrev pub cells_from : List ℕ → ℕ → List Slot → List Cell
cells_from cells i [] = []
cells_from cells i (s ∷ l) = cell_at cells i s ∷ cells_from cells (suc i) l

-- d with the bytes b laid over it from a place on
unfoldable pub laid_over : ℕ → List ℕ → List ℕ → List ℕ
laid_over at b d = take at d ++ b ++ drop (at + length b) d
