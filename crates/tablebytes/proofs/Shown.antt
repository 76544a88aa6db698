-- What the question for a slot shows is what is kept, and all that is kept is shown: a slot's entry is what is found
-- under its name, since no name stands twice, and what is found stands in the slot of its name.
use Prim.Native.Nat.{ℕ}
use mathlib.Core.Path.{◌≡◌}
use mathlib.Core.Bool.{true}
use mathlib.Core.List.{List}
use lib.ListN.{length}
use lib.Dec.{eqb}
use Rattle.scan.specs.Choice.{shown}
use Rattle.scan.proofs.Many.{pick_shown, then_shown, shown_same}
use Rattle.slotbytes.specs.SlotBytes.{slots_in}
use Rattle.archive.specs.Archive.{Name, name_of, Entry, free, Found, one, lookup, place_of}
use Rattle.archive.proofs.Distinct.{distinct_found}
use Rattle.archive.proofs.Places.{place_of_found}
use Rattle.table.specs.Table.{entries_of}
use Rattle.table.specs.Standing.{Stand, stand_of}
use Rattle.table.proofs.Good.{table_good}
use Rattle.table.proofs.Shown.{stand_bytes_lem, held_stands}
use Rattle.tablebytes.specs.Entries.{table_entries, table_slot}
use Rattle.tablebytes.specs.Runs.{Lent, kept_under, ShowsKept, KeptIsShown}

-- over buffers with slots of the right size
module _ (t : Lent) (long : eqb (length t.slots) 1_024 ≡ true) where
  found_kept : (s : List Entry) (m : Name) (f : Found) → entries_of (slots_in 64 t.slots) t.cells ≡ shown s → lookup m s ≡ f → kept_under t m ≡ shown f
  unfolding table_entries kept_under
  found_kept s m f q h = rw (long, q, h)

  stand_slot : (n : ℕ) (p : Stand) → stand_of (slots_in 64 t.slots) t.cells n ≡ shown p → table_slot t.slots t.cells n ≡ shown p
  unfolding table_slot
  stand_slot n p q = rw long q

pub shows_kept : ShowsKept
unfolding table_slot
shows_kept t n p q =
    let a = pick_shown (eqb (length t.slots) 1_024) _ 34 0 p q in
    let b = stand_bytes_lem (slots_in 64 t.slots) t.cells n p a.1 in
    let g = table_good (slots_in 64 t.slots) t.cells b.0 b.2 in
    (b.1, b.4, found_kept t a.0 b.0 (name_of b.1) (one b.1) b.2 (distinct_found g.told.distinct n b.3))

pub kept_is_shown : KeptIsShown
unfolding table_entries kept_under
kept_is_shown t m e q =
    let a = then_shown (table_entries t.slots t.cells) _ (one e) q in
    let b = pick_shown (eqb (length t.slots) 1_024) _ 34 0 a.0 a.1 in
    let h : lookup m a.0 ≡ one e = shown_same a.2 in
    let n = place_of m a.0 in
    let c = held_stands (slots_in 64 t.slots) t.cells a.0 b.1 n e (place_of_found m a.0 free h) in
    (n, c.0, stand_slot t b.0 n c.0 c.1, c.2)
