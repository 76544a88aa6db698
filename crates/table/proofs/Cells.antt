-- Bytes laid over the cell of one slot: that slot reads them, and every other reads as before, since cells do not
-- overlap. What stands before, at and behind a place is cut out of the list; then slot by slot.
use Prim.Native.Nat.{ℕ, zero, suc, ◌+◌, ◌-◌, ◌<◌, ◌≤◌}
use mathlib.Core.Path.{◌≡◌, refl, sym, ap, ◌∙◌}
use mathlib.Core.Bool.{Bool, true, false}
use mathlib.Core.List.{List, [], ◌∷◌, ◌++◌, append_assoc}
use native.Mathlib.Omega.{arith}
use lib.ListN.{length, take, drop, set, length-append, length-drop, take-append-drop}
use lib.Seq.{length-take-le, take_at, take-append-le, drop_at, drop-append-le, drop-append-add, drop-drop}
use lib.Dec.{eqb, leb}
use borrow.Author.Tests.{le-leb, leb-true}
use Rattle.scan.specs.Choice.{pick}
use Rattle.slots.specs.declared.Slot.{Slot}
use Rattle.slots.specs.Slots.{used_slot}
use Rattle.table.specs.Cells.{cell_start, empty, past, bytes, cell_at, cells_from, laid_over}

-- ---- bytes laid over others

-- a part of the front of a list
front : (a n : ℕ) (p q : List ℕ) → a + n ≤ length p → take n (drop a (p ++ q)) ≡ take n (drop a p)
front a n p q h =
    ap (take n) (drop-append-le a p q (omega arith)) ∙ take-append-le n (drop a p) q (omega (arith, length-drop a p))

module _ (at : ℕ) (b d : List ℕ) (fits : at + length b ≤ length d) where
  pub laid_length : length (laid_over at b d) ≡ length d
  unfolding laid_over
  laid_length =
      omega (arith, fits, length-append (take at d ++ b) (drop (at + length b) d), length-append (take at d) b, length-take-le at d (omega (arith, fits)), length-drop (at + length b) d)

  pub laid_before : (a n : ℕ) → a + n ≤ at → take n (drop a (laid_over at b d)) ≡ take n (drop a d)
  unfolding laid_over
  laid_before a n h =
      let k = length-take-le at d (omega (arith, fits)) in
      ap (λ (l : List ℕ). take n (drop a l)) (append_assoc (take at d) b (drop (at + length b) d))
      ∙ front a n (take at d) (b ++ drop (at + length b) d) (omega arith)
      ∙ sym (front a n (take at d) (drop at d) (omega arith))
      ∙ ap (λ (l : List ℕ). take n (drop a l)) (take-append-drop at d)

  pub laid_here : take (length b) (drop at (laid_over at b d)) ≡ b
  unfolding laid_over
  laid_here =
      let k = length-take-le at d (omega (arith, fits)) in
      ap (λ (l : List ℕ). take (length b) (drop at l)) (append_assoc (take at d) b (drop (at + length b) d))
      ∙ ap (take (length b)) (drop_at (take at d) (b ++ drop (at + length b) d) at k)
      ∙ take_at b (drop (at + length b) d) (length b) refl

  pub laid_behind : (a : ℕ) → at + length b ≤ a → drop a (laid_over at b d) ≡ drop a d
  unfolding laid_over
  laid_behind a h =
      let m = a - (at + length b) in
      let p = take at d ++ b in
      let k : length p ≡ at + length b = length-append (take at d) b ∙ ap (λ (n : ℕ). n + length b) (length-take-le at d (omega (arith, fits))) in
      let e : length p + m ≡ a = omega arith in
      let f : at + length b + m ≡ a = omega arith in
      ap (λ (n : ℕ). drop n (p ++ drop (at + length b) d)) (sym e)
      ∙ drop-append-add p (drop (at + length b) d) m
      ∙ drop-drop m (at + length b) d
      ∙ ap (λ (n : ℕ). drop n d) f

-- ---- the cell of one slot

-- the slot of the bytes reads them
cell_same : (d : List ℕ) (i n : ℕ) (b : List ℕ) → n ≤ 1_024 → take n (drop (cell_start i) d) ≡ b → cell_at d i (used_slot n) ≡ bytes b
unfolding cell_at
cell_same d i n b h e = rw (le-leb n 1_024 h, e)

-- a slot whose cell has the same bytes reads the same
cell_alike : (d d' : List ℕ) (i : ℕ) (s : Slot) → ((n : ℕ) → n ≤ 1_024 → take n (drop (cell_start i) d) ≡ take n (drop (cell_start i) d')) → cell_at d i s ≡ cell_at d' i s
unfolding cell_at
cell_alike d d' i s f = ap (pick (eqb s.mark 0) empty) (by_length (leb s.len 1_024) refl)
  where
    by_length : (t : Bool) → leb s.len 1_024 ≡ t → pick t (bytes (take s.len (drop (cell_start i) d))) past ≡ pick t (bytes (take s.len (drop (cell_start i) d'))) past
    by_length true h = ap bytes (f s.len (leb-true s.len 1_024 h))
    by_length false h = refl

-- ---- the cells of all

module _ (b cells : List ℕ) (small : length b ≤ 1_024) (i : ℕ) (fits : cell_start i + length b ≤ length cells) where
  abbrev laid : List ℕ
  laid = laid_over (cell_start i) b cells

  cell_before : (j : ℕ) (s : Slot) → j < i → cell_at laid j s ≡ cell_at cells j s
  cell_before j s h = cell_alike laid cells j s (λ n m. laid_before (cell_start i) b cells fits (cell_start j) n (omega arith))

  cell_behind : (j : ℕ) (s : Slot) → i < j → cell_at laid j s ≡ cell_at cells j s
  cell_behind j s h = cell_alike laid cells j s (λ n m. ap (take n) (laid_behind (cell_start i) b cells fits (cell_start j) (omega (arith, small))))

  behind : (j : ℕ) (l : List Slot) → i < j → cells_from laid j l ≡ cells_from cells j l
  behind j [] h = refl
  behind j (s ∷ l) h = rw (cell_behind j s h, behind (suc j) l (omega arith))

  -- slot i is number n of l, whose first is number j
  upon : (j n : ℕ) (l : List Slot) → j + n ≡ i → n < length l → cells_from laid j (set l n (used_slot (length b))) ≡ set (cells_from cells j l) n (bytes b)
  upon j n [] e h = absurd (omega arith)
  upon j zero (s ∷ l) e h =
      let q : j ≡ i = omega arith in
      rw (cell_same laid j (length b) b small (rw q (laid_here (cell_start i) b cells fits)), behind (suc j) l (omega arith))
  upon j (suc n) (s ∷ l) e h = rw (cell_before j s (omega arith), upon (suc j) n l (omega arith) (omega arith))

-- One slot changes, and every other reads as before.
pub cells_set : (b cells : List ℕ) (slots : List Slot) (i : ℕ) → length b ≤ 1_024 → length cells ≡ 65_536 → i < 64 → i < length slots
    → cells_from (laid_over (cell_start i) b cells) 0 (set slots i (used_slot (length b))) ≡ set (cells_from cells 0 slots) i (bytes b)
cells_set b cells slots i h k m l = upon b cells h i (omega arith) 0 i slots (omega arith) l

-- The cells keep their length.
pub cells_length : (b cells : List ℕ) (i : ℕ) → length b ≤ 1_024 → length cells ≡ 65_536 → i < 64 → length (laid_over (cell_start i) b cells) ≡ 65_536
cells_length b cells i h k m = laid_length (cell_start i) b cells (omega arith) ∙ k
