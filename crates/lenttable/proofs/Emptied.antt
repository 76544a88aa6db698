-- A table that was emptied holds nothing: every entry is free. Slot by slot. Assumes nothing.
use mathlib.Core.Path.{◌≡◌, refl, sym, ap, subst}
use Prim.Native.Nat.{ℕ, zero, suc}
use mathlib.Core.Bool.{Bool, true, false}
use mathlib.Core.List.{List, ◌∷◌, map}
use lib.ListN.{length, replicate, length-replicate}
use lib.Dec.{T, eqb}
use Rattle.scan.specs.Choice.{pick, Answer, shown, and_then}
use Rattle.slots.specs.declared.Slot.{Slot}
use Rattle.slots.specs.Slots.{free_slot}
use Rattle.archive.specs.Archive.{Entry, free}
use Rattle.table.specs.Cells.{cell_at, cells_from}
use Rattle.table.specs.Table.{Holds, nothing, holds, entries_from, slots_hold, entries_of}
use Rattle.lenttable.specs.Empty.{is_table, emptied, slots_emptied, cells_emptied}

nothing_held : (cells : List ℕ) (i n : ℕ) → map holds (cells_from cells i (replicate n free_slot)) ≡ replicate n nothing
unfolding cell_at
nothing_held cells i zero = refl
nothing_held cells i (suc n) = ap (λ (l : List Holds). nothing ∷ l) (nothing_held cells (suc i) n)

all_free : (i n : ℕ) → entries_from i (replicate n nothing) ≡ shown (replicate n free)
all_free i zero = refl
all_free i (suc n) = ap (λ (a : Answer (List Entry)). and_then a λ s. shown (free ∷ s)) (all_free (suc i) n)

free_entries : (n : ℕ) (cells : List ℕ) → eqb n 64 ≡ true → eqb (length cells) 65_536 ≡ true → entries_of (replicate n free_slot) cells ≡ shown (replicate n free)
unfolding entries_of slots_hold
free_entries n cells e h = rw (length-replicate n free_slot, e, h, nothing_held cells 0 n) (all_free 0 n)

both : (b c : Bool) → pick b c false ≡ true → (b ≡ true) × (c ≡ true)
both true c e = (refl, e)
both false c e = absurd (subst T (sym e) tt)

sizes : (n m : ℕ) → is_table n m ≡ true → (eqb n 64 ≡ true) × (eqb m 65_536 ≡ true)
unfolding is_table
sizes n m e = both (eqb n 64) (eqb m 65_536) e

pub emptied_entries : (l : List Slot) (d : List ℕ) → is_table (length l) (length d) ≡ true
    → entries_of (slots_emptied (emptied l d) l) (cells_emptied (emptied l d) d) ≡ shown (replicate (length l) free)
emptied_entries l d e =
    let s = sizes (length l) (length d) e in
    rw e (free_entries (length l) (replicate (length d) 0) s.0 (subst (λ (m : ℕ). eqb m 65_536 ≡ true) (sym (length-replicate (length d) 0)) s.1))
