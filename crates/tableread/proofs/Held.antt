-- One slot: what is known of it and what it holds, each from the other; where its event stands.
-- By cases of what is known; and of a slot by its number.
use Prim.Native.Nat.{ℕ, zero, suc}
use mathlib.Core.Path.{◌≡◌, refl, sym, ap, ◌∙◌, subst}
use mathlib.Core.List.{List}
use lib.ListN.{length, take, drop}
use lib.Dec.{eqb, ltb}
use Rattle.scan.specs.Choice.{Answer, shown, refused}
use Rattle.scan.specs.Bytes.{IsBytes}
use Rattle.scan.proofs.Step.{pick_by}
use Rattle.event.specs.Event.{Event}
use Rattle.notepack.specs.inner.Answers.{Walked, walk_at}
use Rattle.notepack.specs.Views.{nth}
use Rattle.slots.specs.declared.Slot.{Slot}
use Rattle.archive.specs.Archive.{Entry, free, held, is_ephemeral}
use Rattle.table.specs.Cells.{cell_start, cell_at}
use Rattle.table.specs.Table.{Holds, nothing, bad, good, holds}
use Rattle.tableread.specs.declared.Stored.{Stored}
use Rattle.tableread.specs.declared.Known.{Known}
use Rattle.tableread.specs.declared.Known.TheVariants.{Free, Bad, Good}
use Rattle.tableread.specs.inner.Known.{stored_at, known_walked, known_bytes, known_at}
use Rattle.tableread.proofs.Knowing.{Stands, Tells, is_free, is_bad, is_good_lem, known_tells}
use Rattle.tableread.proofs.Entries.{Alike, ends, frees, holds_one}

-- ---- where the event of a slot stands

-- an event that is known stands at that place, with that length
data Placed (at len : ℕ) : Known → Type 0 where
  no_event : Placed at len Free
  no_good : Placed at len Bad
  event : {a : Stored} → a.at ≡ at → a.len ≡ len → Placed at len (Good a)

bytes_placed : (at len : ℕ) (b : List ℕ) (r : Answer Walked) → Placed at len (known_walked at len b r)
unfolding stored_at
bytes_placed at len b (shown w) =
    pick_by (Placed at len) (eqb w.tally.len (length b))
    (λ _. pick_by (Placed at len) w.tally.hollow (λ _. no_good) (λ _. pick_by (Placed at len) (is_ephemeral w.head.kind) (λ _. no_good) (λ _. event refl refl))) (λ _. no_good)
bytes_placed at len b (refused n p) = no_good

known_placed : (cells : List ℕ) (i : ℕ) (s : Slot) → Placed (cell_start i) s.len (known_at cells i s)
unfolding known_at known_bytes
known_placed cells i s =
    pick_by (Placed (cell_start i) s.len) (eqb s.mark 0) (λ _. no_event)
    (λ _. pick_by (Placed (cell_start i) s.len) (ltb 1_024 s.len) (λ _. no_good) (λ _. let b = take s.len (drop (cell_start i) cells) in bytes_placed (cell_start i) s.len b (walk_at b)))

placed_at : {at len : ℕ} {k : Known} {a : Stored} → Placed at len k → k ≡ Good a → (a.at ≡ at) × (a.len ≡ len)
placed_at no_event e = absurd (cc)
placed_at no_good e = absurd (cc)
placed_at {a = a} (event {a = b} p q) e = let f : b ≡ a = cc in (ap (λ (x : Stored). x.at) (sym f) ∙ p, ap (λ (x : Stored). x.len) (sym f) ∙ q)

-- ---- what is known and what is held

module _ {cells : List ℕ} where
  tells_good : {k : Known} {h : Holds} {a : Stored} → Tells cells k h → k ≡ Good a → (e : Event) × (h ≡ good e) × Stands cells a e
  tells_good is_free q = absurd (cc)
  tells_good is_bad q = absurd (cc)
  tells_good {a = a} (is_good_lem {a = b} {e} g) q = let f : b ≡ a = cc in (e, refl, subst (λ (x : Stored). Stands cells x e) f g)

  tells_free : {k : Known} {h : Holds} → Tells cells k h → k ≡ Free → h ≡ nothing
  tells_free is_free q = refl
  tells_free is_bad q = absurd (cc)
  tells_free (is_good_lem g) q = absurd (cc)

  tells_bad : {k : Known} {h : Holds} → Tells cells k h → k ≡ Bad → h ≡ bad
  tells_bad is_free q = absurd (cc)
  tells_bad is_bad q = refl
  tells_bad (is_good_lem g) q = absurd (cc)

  nothing_told : {k : Known} {h : Holds} → Tells cells k h → h ≡ nothing → k ≡ Free
  nothing_told is_free q = refl
  nothing_told is_bad q = absurd (cc)
  nothing_told (is_good_lem g) q = absurd (cc)

  bad_told : {k : Known} {h : Holds} → Tells cells k h → h ≡ bad → k ≡ Bad
  bad_told is_free q = absurd (cc)
  bad_told is_bad q = refl
  bad_told (is_good_lem g) q = absurd (cc)

  -- ---- a slot by its number

  pub alike_length : {ks : List Known} {l : List Entry} → Alike cells ks l → length ks ≡ length l
  alike_length ends = refl
  alike_length (frees u) = ap suc (alike_length u)
  alike_length (holds_one g u) = ap suc (alike_length u)

-- the i-th known slot and the i-th entry, or none of either
pub data Nth (cells : List ℕ) : Answer Known → Answer Entry → Type 0 where
  no_slot : Nth cells (refused 19 0) (refused 19 0)
  free_slot_lem : Nth cells (shown Free) (shown free)
  held_slot : {a : Stored} {e : Event} → Stands cells a e → Nth cells (shown (Good a)) (shown (held e))

pub nth_known : {cells : List ℕ} (i : ℕ) {ks : List Known} {l : List Entry} → Alike cells ks l → Nth cells (nth i ks) (nth i l)
nth_known i ends = no_slot
nth_known zero (frees u) = free_slot_lem
nth_known zero (holds_one g u) = held_slot g
nth_known (suc i) (frees u) = nth_known i u
nth_known (suc i) (holds_one g u) = nth_known i u

-- ---- slot i

module _ {cells : List ℕ} (all : IsBytes cells) (i : ℕ) (s : Slot) where
  -- an event that is known is held, and stands in the slot's cell
  pub known_good : {a : Stored} → known_at cells i s ≡ Good a
      → (e : Event) × (holds (cell_at cells i s) ≡ good e) × Stands cells a e × (a.at ≡ cell_start i) × (a.len ≡ s.len)
  known_good q =
      let g = tells_good (known_tells cells all i s) q in
      let p = placed_at (known_placed cells i s) q in
      (g.0, g.1, g.2, p.0, p.1)

  pub known_free : known_at cells i s ≡ Free → holds (cell_at cells i s) ≡ nothing
  known_free = tells_free (known_tells cells all i s)

  pub known_bad : known_at cells i s ≡ Bad → holds (cell_at cells i s) ≡ bad
  known_bad = tells_bad (known_tells cells all i s)

  pub nothing_known : holds (cell_at cells i s) ≡ nothing → known_at cells i s ≡ Free
  nothing_known = nothing_told (known_tells cells all i s)

  pub bad_known : holds (cell_at cells i s) ≡ bad → known_at cells i s ≡ Bad
  bad_known = bad_told (known_tells cells all i s)
