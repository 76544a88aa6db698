-- What is known of the slots once their cells have been read, and what is looked for among them. `proofs/Knowing` shows
-- that it is what the slots hold. Assumes nothing.
use Prim.{Unit, tt}
use Rattle.std.specs.Prelude.{ℕ, suc, Bool, true, false, Option, Some, None, List, [], ◌∷◌, length, take, drop, eqb, ltb}
use Rattle.scan.specs.Choice.{pick, Answer, shown, refused}
use Rattle.notepack.specs.declared.Head.{Head}
use Rattle.notepack.specs.inner.Answers.{Walked, walk_at}
use Rattle.keys.specs.declared.KeyPlace.{KeyPlace}
use Rattle.keys.specs.inner.Place.{key_at, key_there}
use Rattle.slots.specs.declared.Slot.{Slot}
use Rattle.archive.specs.Archive.{Name, name_by, same_name, is_ephemeral}
use Rattle.table.specs.Cells.{cell_start}
use Rattle.tableread.specs.declared.Stored.{Stored}
use Rattle.tableread.specs.declared.Known.{Known}
use Rattle.tableread.specs.declared.Known.TheVariants.{Free, Bad, Good}
use Rattle.tableread.specs.inner.Prints.{print_of}

-- the name of a packed event that has this key
abbrev pub name_there : List ℕ → Option KeyPlace → Name
name_there s key = name_by (take 32 s) (key_there s key)

abbrev pub stored_bytes : List ℕ → Stored → List ℕ
stored_bytes cells a = take a.len (drop a.at cells)

-- an event that was walked over, at a place of the cells
unfoldable pub stored_at : ℕ → ℕ → List ℕ → Head → Stored
stored_at at len b h = record { at = at; len = len; created_at = h.created_at; key = key_at b h; print = print_of (name_there b (key_at b h)) }

-- bytes that were walked over: strict, and of a kind that is kept
abbrev pub known_walked : ℕ → ℕ → List ℕ → Answer Walked → Known
known_walked at len b (shown w) =
    pick (eqb w.tally.len (length b)) (pick w.tally.hollow Bad (pick (is_ephemeral w.head.kind) Bad (Good (stored_at at len b w.head)))) Bad
known_walked at len b (refused n p) = Bad

unfoldable pub known_bytes : List ℕ → ℕ → ℕ → Known
known_bytes cells at len = known_walked at len (take len (drop at cells)) (walk_at (take len (drop at cells)))

-- slot i
unfoldable pub known_at : List ℕ → ℕ → Slot → Known
known_at cells i s = pick (eqb s.mark 0) Free (pick (ltb 1_024 s.len) Bad (known_bytes cells (cell_start i) s.len))

-- slots, the first of which is number i
abbrev pub known_from : List ℕ → ℕ → List Slot → List Known
known_from cells i [] = []
known_from cells i (s ∷ l) = known_at cells i s ∷ known_from cells (suc i) l

-- whether a slot holds an event with the name of s
unfoldable pub holds_name : List ℕ → List ℕ → Option KeyPlace → ℕ → Known → Bool
holds_name cells s key print Free = false
holds_name cells s key print Bad = false
holds_name cells s key print (Good a) = pick (eqb a.print print) (same_name (name_there s key) (name_there (stored_bytes cells a) a.key)) false

-- whether one of the slots does
unfoldable pub some_holds : List ℕ → List ℕ → Option KeyPlace → ℕ → List Known → Bool
some_holds cells s key print [] = false
some_holds cells s key print (k ∷ l) = pick (holds_name cells s key print k) true (some_holds cells s key print l)

-- the lowest bad slot, the first being number i
unfoldable pub lowest_from : List ℕ → ℕ → List Known → Option ℕ
lowest_from cells i [] = None
lowest_from cells i (Free ∷ l) = lowest_from cells (suc i) l
lowest_from cells i (Bad ∷ l) = Some i
lowest_from cells i (Good a ∷ l) = pick (some_holds cells (stored_bytes cells a) a.key a.print l) (Some i) (lowest_from cells (suc i) l)

abbrev pub none_bad : Option ℕ → Answer (Unit {0})
none_bad (Some i) = refused 34 i
none_bad None = shown tt

-- 34 for another size, and at the lowest bad slot
unfoldable pub good_known : List ℕ → List Known → Answer (Unit {0})
good_known cells ks = pick (eqb (length cells) 65_536) (none_bad (lowest_from cells 0 ks)) (refused 34 0)

-- the slot that holds an event with the name of s, the first being number i
unfoldable pub find_from : List ℕ → List ℕ → Option KeyPlace → ℕ → ℕ → List Known → Option (ℕ × Stored)
find_from cells s key print i [] = None
find_from cells s key print i (Free ∷ l) = find_from cells s key print (suc i) l
find_from cells s key print i (Bad ∷ l) = find_from cells s key print (suc i) l
find_from cells s key print i (Good a ∷ l) = pick (holds_name cells s key print (Good a)) (Some (i, a)) (find_from cells s key print (suc i) l)

-- the lowest free slot, the first being number i
unfoldable pub free_from : ℕ → List Known → Option ℕ
free_from i [] = None
free_from i (Free ∷ l) = Some i
free_from i (Bad ∷ l) = free_from (suc i) l
free_from i (Good a ∷ l) = free_from (suc i) l
