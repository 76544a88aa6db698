-- A good table: its sizes are right, and it holds its entries. To lay a strict form over one cell puts the event into
-- that entry: the slot reads the form back as the event, and every other slot holds what it held.
use Prim.Native.Nat.{ℕ, zero, suc, ◌<◌, ◌≤◌}
use mathlib.Core.Path.{◌≡◌, refl, sym, ap, ◌∙◌, subst}
use mathlib.Core.Bool.{false}
use mathlib.Core.List.{List, [], ◌∷◌, map}
use native.Mathlib.Omega.{arith}
use lib.ListN.{length, set, replicate, length-set, length-map}
use lib.Dec.{eqb}
use borrow.Author.Tests.{eq-eqb, eqb-true}
use Rattle.scan.specs.Choice.{shown}
use Rattle.scan.proofs.Many.{pick_shown}
use Rattle.scan.proofs.CompareLaws.{same_same}
use Rattle.event.specs.Event.{Event}
use Rattle.notepack.specs.Strict.{pack}
use Rattle.notepack.specs.Unpack.{unpack}
use Rattle.slots.specs.declared.Slot.{Slot}
use Rattle.slots.specs.Slots.{free_slot, used_slot}
use Rattle.archive.specs.Archive.{Entry, free, held, is_ephemeral}
use Rattle.archive.specs.inner.Distinct.{Distinct}
use Rattle.table.specs.Cells.{Cell, bytes, cell_start, cell_at, cells_from, laid_over}
use Rattle.table.specs.Table.{Holds, good, holds, entries_from, slots_hold, entries_of}
use Rattle.table.proofs.Cells.{cells_set, cells_length}
use Rattle.table.proofs.Entries.{Told, alike_length, alike_set, entries_told, entries_shown}

pub record Good (slots : List Slot) (cells : List ℕ) (s : List Entry) : Type 0 where
  pub many : length slots ≡ 64
  pub room : length cells ≡ 65_536
  pub told : Told (slots_hold slots cells) s

-- ---- good exactly where the entries are shown

pub table_good : (slots : List Slot) (cells : List ℕ) (s : List Entry) → entries_of slots cells ≡ shown s → Good slots cells s
unfolding entries_of
table_good slots cells s q =
    let t = pick_shown (eqb (length slots) 64) _ 34 0 s q in
    let u = pick_shown (eqb (length cells) 65_536) _ 34 0 s t.1 in
    record { many = eqb-true (length slots) 64 t.0; room = eqb-true (length cells) 65_536 u.0; told = entries_told 0 (slots_hold slots cells) s u.1 }

pub good_shown : {slots : List Slot} {cells : List ℕ} {s : List Entry} → Good slots cells s → entries_of slots cells ≡ shown s
unfolding entries_of
good_shown {slots} {cells} g =
    rw (eq-eqb (length slots) 64 g.many, eq-eqb (length cells) 65_536 g.room) (entries_shown 0 g.told.alike g.told.distinct)

length_cells : (cells : List ℕ) (i : ℕ) (slots : List Slot) → length (cells_from cells i slots) ≡ length slots
length_cells cells i [] = refl
length_cells cells i (s ∷ l) = ap suc (length_cells cells (suc i) l)

-- as many entries as slots
pub good_many : {slots : List Slot} {cells : List ℕ} {s : List Entry} → Good slots cells s → length s ≡ 64
unfolding slots_hold
good_many {slots} {cells} g = sym (alike_length g.told.alike) ∙ length-map (cells_from cells 0 slots) holds ∙ length_cells cells 0 slots ∙ g.many

-- free slots are a table with nothing in it
free_entries : (n i : ℕ) (cells : List ℕ) → entries_from i (map holds (cells_from cells i (replicate n free_slot))) ≡ shown (replicate n free)
unfolding cell_at
free_entries zero i cells = refl
free_entries (suc n) i cells = rw (free_entries n (suc i) cells)

pub good_free : (cells : List ℕ) → length cells ≡ 65_536 → entries_of (replicate 64 free_slot) cells ≡ shown (replicate 64 free)
unfolding entries_of slots_hold
good_free cells h = rw (eq-eqb (length cells) 65_536 h) (free_entries 64 0 cells)

-- ---- an event in one slot

-- the strict form of an event that is kept holds it
holds_pack : (e : Event) → unpack (pack e) ≡ shown e → is_ephemeral e.kind ≡ false → holds (bytes (pack e)) ≡ good e
holds_pack e q k = rw (q, same_same (pack e), k)

map_set : (f : Cell → Holds) (l : List Cell) (i : ℕ) (x : Cell) → map f (set l i x) ≡ set (map f l) i (f x)
map_set f [] i x = refl
map_set f (y ∷ l) zero x = refl
map_set f (y ∷ l) (suc i) x = ap (λ (t : List Holds). f y ∷ t) (map_set f l i x)

pub laid_good : {slots : List Slot} {cells : List ℕ} {s : List Entry} → Good slots cells s
    → (e : Event) → unpack (pack e) ≡ shown e → length (pack e) ≤ 1_024 → is_ephemeral e.kind ≡ false
    → (i : ℕ) → i < length s → Distinct (set s i (held e))
    → Good (set slots i (used_slot (length (pack e)))) (laid_over (cell_start i) (pack e) cells) (set s i (held e))
unfolding slots_hold
laid_good {slots} {cells} {s} g e reads small kept i h v =
    let n = good_many g in
    let m = g.many in
    let c = cells_set (pack e) cells slots i small g.room (omega arith) (omega arith) in
    let q = ap (map holds) c ∙ map_set holds (cells_from cells 0 slots) i (bytes (pack e)) ∙ ap (set (map holds (cells_from cells 0 slots)) i) (holds_pack e reads kept) in
    record {
      many = length-set slots i (used_slot (length (pack e))) ∙ m;
      room = cells_length (pack e) cells i small g.room (omega arith);
      told = subst (λ (l : List Holds). Told l (set s i (held e))) (sym q) (record { alike = alike_set i e g.told.alike; distinct = v });
    }
