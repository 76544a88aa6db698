-- What an offer does to a table of which every slot is known. `proofs/Meaning` shows that it is what the table's own
-- definitions say. Assumes nothing.
use Rattle.std.specs.Prelude.{ℕ, Option, Some, None, List, length, take, ltb}
use Rattle.scan.specs.Choice.{pick, Answer, shown, refused}
use Rattle.scan.specs.Compare.{same_bytes}
use Rattle.notepack.specs.declared.Head.{Head}
use Rattle.keys.specs.declared.KeyPlace.{KeyPlace}
use Rattle.keys.specs.inner.Place.{key_at}
use Rattle.rivals.specs.Rivals.{keeps_by}
use Rattle.slots.specs.Slots.{used_slot}
use Rattle.archive.specs.declared.Outcome.TheVariants.{New, Replaced, Loses, Held, NotKept}
use Rattle.archive.specs.Archive.{is_ephemeral, is_second}
use Rattle.notepack.specs.inner.Answers.{Walked, walk_at}
use Rattle.strict.specs.inner.Copy.{packed_pieces}
use Rattle.buffer.specs.inner.Store.{puts}
use Rattle.table.specs.Cells.{cell_start}
use Rattle.tableoffer.specs.declared.Decision.{Decision}
use Rattle.tableread.specs.declared.Stored.{Stored}
use Rattle.tableread.specs.declared.Known.{Known}
use Rattle.tableoffer.specs.declared.Plan.{Plan}
use Rattle.tableoffer.specs.declared.Plan.TheVariants.{Put, Stays, Full}
use Rattle.tableread.specs.inner.Prints.{print_of}
use Rattle.tableread.specs.inner.Known.{name_there, stored_bytes, find_from, free_from}

-- the event s beside the one that slot i holds under its name
unfoldable pub beside_stored : List ℕ → ℕ → Stored → List ℕ → ℕ → Option KeyPlace → List ℕ → Plan
beside_stored cells i a s time None b = Stays Held
beside_stored cells i a s time (Some k) b =
    pick (is_second (keeps_by a.created_at time (take 32 (stored_bytes cells a)) (take 32 s))) (Put i Replaced)
    (pick (same_bytes (stored_bytes cells a) b) (Stays Held) (Stays Loses))

abbrev pub new_in : Option ℕ → Plan
new_in (Some i) = Put i New
new_in None = Full

abbrev pub plan_found : List ℕ → List Known → List ℕ → Head → List ℕ → Option (ℕ × Stored) → Plan
plan_found cells ks s h b (Some (i, a)) = beside_stored cells i a s h.created_at (key_at s h) b
plan_found cells ks s h b None = new_in (free_from 0 ks)

-- what the offer of s does, of which h was read; b is its strict form
unfoldable pub plan_for : List ℕ → List Known → List ℕ → Head → List ℕ → Plan
plan_for cells ks s h b =
    pick (is_ephemeral h.kind) (Stays NotKept)
    (plan_found cells ks s h b (find_from cells s (key_at s h) (print_of (name_there s (key_at s h))) 0 ks))

-- the slot that takes the event
abbrev pub place_number : Plan → ℕ
place_number (Put i r) = i
place_number (Stays r) = 0
place_number Full = 0

-- the decision by a plan, for an event of n bytes; the cells with the event in its place
abbrev pub decision_by : Plan → ℕ → Answer Decision
decision_by (Put i r) n = shown (record { outcome = r; change = Some (i, used_slot n) })
decision_by (Stays r) n = shown (record { outcome = r; change = None })
decision_by Full n = refused 23 0

abbrev pub cells_by : Plan → List ℕ → List ℕ → List ℕ
cells_by (Put i r) b d = (puts (d, cell_start i) b).0
cells_by (Stays r) b d = d
cells_by Full b d = d

-- an offer to a table without a bad slot, of an event that was walked over
abbrev pub walked_decision : List ℕ → List Known → List ℕ → Answer Walked → Answer Decision
walked_decision cells ks packed (shown w) =
    pick (ltb 1_024 w.tally.len) (refused 22 0)
    (decision_by (plan_for cells ks packed w.head (packed_pieces packed w.head)) (length (packed_pieces packed w.head)))
walked_decision cells ks packed (refused n p) = refused n p

abbrev pub walked_cells : List ℕ → List Known → List ℕ → Answer Walked → List ℕ
walked_cells cells ks packed (shown w) =
    pick (ltb 1_024 w.tally.len) cells
    (cells_by (plan_for cells ks packed w.head (packed_pieces packed w.head)) (packed_pieces packed w.head) cells)
walked_cells cells ks packed (refused n p) = cells

unfoldable pub good_decision : List ℕ → List Known → List ℕ → Answer Decision
good_decision cells ks packed = walked_decision cells ks packed (walk_at packed)

unfoldable pub good_cells : List ℕ → List Known → List ℕ → List ℕ
good_cells cells ks packed = walked_cells cells ks packed (walk_at packed)
