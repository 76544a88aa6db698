-- Where well-formed text stops, for every text that starts at a place: found once; and the table of those that start at
-- a multiple of 8. `Texts.ends_decides` shows that the stop of a start decides each end, `Table.table_entry` what
-- stands in the table. Assumes nothing.
use Rattle.std.specs.Prelude.{ℕ, zero, suc, ◌+◌, ◌-◌, ◌*◌, ◌/◌, Bool, false, not, ◌&&◌, ◌||◌, List, [], ◌∷◌, ◌++◌, length, drop, leb, eqb}
use Rattle.scan.specs.Choice.{pick}
use Rattle.scan.specs.Place.{byte_at}
use Rattle.utf8.specs.inner.Width.{is_tail, width_at}

-- sequence after sequence from a place on: the place where none stands
unfoldable pub stop_by : ℕ → List ℕ → ℕ → ℕ
stop_by zero s at = at
stop_by (suc fuel) s at = pick (eqb (width_at s at) 0) at (stop_by fuel s (at + width_at s at))

abbrev pub stop_at : List ℕ → ℕ → ℕ
stop_at s at = stop_by (length s - at) s at

-- whether a text that ends at e is well-formed, where its sequences stop at `stop`: it ends between two of them
unfoldable pub ends_at : List ℕ → (stop e : ℕ) → Bool
ends_at s stop e = pick (leb e stop) (eqb e stop || not (is_tail (byte_at s e))) false

-- ---- the table

-- how many multiples of 8 are places of d
abbrev pub words : List ℕ → ℕ
words d = (length d + 7) / 8

-- the stops from the words i on, k of them
unfoldable pub stop_list : ℕ → List ℕ → ℕ → List ℕ
stop_list zero d i = []
stop_list (suc k) d i = stop_at d (8 * i) ∷ stop_list k d (i + 1)

-- every place fits an entry of 16 bits, and every word has one
unfoldable pub has_room : (d t : List ℕ) → Bool
has_room d t = leb (length d) 65_535 && leb (words d) (length t)

-- the table t with the stops in front; without room as it was
unfoldable pub stops_left : (d t : List ℕ) → List ℕ
stops_left d t = pick (has_room d t) (stop_list (words d) d 0 ++ drop (words d) t) t
