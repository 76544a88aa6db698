-- A whole table: its refusal, or what its slots hold, one by one the entries.
-- By the two sizes and by the lowest bad slot.
use Prim.{tt}
use Prim.Native.Nat.{ℕ}
use Rattle.std.specs.Prelude.{Option, Some, None}
use mathlib.Core.Path.{◌≡◌, refl}
use mathlib.Core.Bool.{Bool, true, false}
use mathlib.Core.List.{List}
use lib.ListN.{length}
use lib.Dec.{eqb}
use borrow.Author.Tests.{eq-eqb, eqb-true}
use Rattle.scan.specs.Choice.{pick, Answer, shown, refused}
use Rattle.scan.specs.Bytes.{IsBytes}
use Rattle.slots.specs.declared.Slot.{Slot}
use Rattle.archive.specs.Archive.{Entry}
use Rattle.table.specs.Table.{entries_from, slots_hold, entries_of}
use Rattle.tableread.specs.declared.Known.{Known}
use Rattle.tableread.specs.inner.Known.{known_from, lowest_from, none_bad, good_known}
use Rattle.tableread.proofs.Entries.{Alike, lowest_bad_is, lowest_none}

-- a refusal is one of any answer
same : {A B : Type 0} {n p m q : ℕ} → ◌≡◌ {A = Answer A} (refused n p) (refused m q) → ◌≡◌ {A = Answer B} (refused m q) (refused n p)
same e = cc

module _ (t : List Slot) (cells : List ℕ) where
  -- a good table: its entries, and what its slots hold
  pub record GoodTable (ks : List Known) : Type 0 where
    pub entries : List Entry
    pub shows : entries_of t cells ≡ shown entries
    pub knows : ks ≡ known_from cells 0 t
    pub room : length cells ≡ 65_536
    pub alike : Alike cells (known_from cells 0 t) entries

  module _ (many : length t ≡ 64) (bytes : IsBytes cells) {ks : List Known} (k : ks ≡ known_from cells 0 t) where
    -- what refuses it is the table's refusal
    pub table_refused : {n p : ℕ} → refused n p ≡ good_known cells ks → entries_of t cells ≡ refused n p
    unfolding good_known entries_of
    table_refused {n} {p} e = go (eqb (length cells) 65_536) (lowest_from cells 0 ks) refl refl e
      where
        go : (x : Bool) (f : Option ℕ) → eqb (length cells) 65_536 ≡ x → lowest_from cells 0 ks ≡ f → refused n p ≡ pick x (none_bad f) (refused 34 0)
            → pick (eqb (length t) 64) (pick (eqb (length cells) 65_536) (entries_from 0 (slots_hold t cells)) (refused 34 0)) (refused 34 0) ≡ refused n p
        go true (Some i) q l e = let z = lowest_bad_is cells bytes t (rw k at l) in rw (eq-eqb (length t) 64 many, q, z) (same e)
        go true None q l e = absurd (cc)
        go false f q l e = rw (eq-eqb (length t) 64 many, q) (same e)

    -- where none does, it is good
    pub good_table : shown tt ≡ good_known cells ks → GoodTable ks
    unfolding good_known entries_of
    good_table e = go (eqb (length cells) 65_536) (lowest_from cells 0 ks) refl refl e
      where
        go : (x : Bool) (f : Option ℕ) → eqb (length cells) 65_536 ≡ x → lowest_from cells 0 ks ≡ f → shown tt ≡ pick x (none_bad f) (refused 34 0) → GoodTable ks
        go true None q l e =
            let z = lowest_none cells bytes t (rw k at l) in
            record { entries = z.0; shows = rw (eq-eqb (length t) 64 many, q) (z.1); knows = k; room = eqb-true (length cells) 65_536 q; alike = z.2 }
        go true (Some i) q l e = absurd (cc)
        go false f q l e = absurd (cc)
