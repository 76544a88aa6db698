-- The ways in which the question for a slot's event ends, each the definition's own.
-- By what is known of the slots, one by one the entries of the table.
use Prim.{tt}
use Prim.Native.Nat.{ℕ, zero, suc, ◌+◌, ◌≤◌, ◌<◌}
use mathlib.Core.Path.{◌≡◌, refl, sym, ap, ◌∙◌}
use mathlib.Core.Bool.{Bool, true, false}
use mathlib.Core.List.{List, [], ◌∷◌}
use native.Mathlib.Omega.{arith}
use native.Mathlib.Decide.{dec_lt}
use mathlib.Core.Logic.{dite, ◌⊎◌, inl, inr}
use native.Mathlib.Nat.{not-suc-le-zero, le_of_suc-le-suc}
use lib.ListN.{length, get_or, get_or-eq_default}
use lib.Dec.{eqb, ltb}
use borrow.Author.Tests.{ltb-false}
use Rattle.scan.specs.Choice.{pick, Answer, shown, refused, and_then}
use Rattle.scan.specs.Bytes.{IsBytes}
use Rattle.scan.proofs.Reading.{part_length}
use Rattle.event.specs.Event.{Event}
use Rattle.notepack.specs.Strict.{pack}
use Rattle.notepack.specs.Views.{nth}
use Rattle.notepack.proofs.Viewing.{nth_none}
use Rattle.slots.specs.declared.Slot.{Slot}
use Rattle.slots.specs.Slots.{free_slot}
use Rattle.archive.specs.Archive.{Entry}
use Rattle.table.specs.Cells.{cell_start}
use Rattle.table.specs.Standing.{Stand, standing, stand_of}
use Rattle.tableread.specs.declared.Stored.{Stored}
use Rattle.tableread.specs.declared.Known.{Known}
use Rattle.tableread.specs.declared.Known.TheVariants.{Free, Bad, Good}
use Rattle.tableread.specs.inner.Known.{known_bytes, known_at, known_from, good_known}
use Rattle.tableread.proofs.Knowing.{Stands}
use Rattle.tableread.proofs.Whole as whole
use Rattle.tableread.proofs.Held.{alike_length, Nth, no_slot, free_slot_lem, held_slot, nth_known, known_good}
use Rattle.tableread.proofs.Turns.{known_length, known_at_lem}
use Rattle.tableslot.specs.inner.Answers.{known_stand}

nth_at : (i : ℕ) (ks : List Known) → i < length ks → nth i ks ≡ shown (get_or ks i Free)
nth_at i [] h = absurd (not-suc-le-zero h)
nth_at zero (k ∷ ks) h = refl
nth_at (suc i) (k ∷ ks) h = nth_at i ks (le_of_suc-le-suc h)

-- a good slot's length does not pass its cell
good_short : (cells : List ℕ) (i : ℕ) (s : Slot) {a : Stored} → known_at cells i s ≡ Good a → s.len ≤ 1_024
unfolding known_at
good_short cells i s {a} e = go (eqb s.mark 0) (ltb 1_024 s.len) refl e
  where
    go : (x y : Bool) → ltb 1_024 s.len ≡ y → pick x Free (pick y Bad (known_bytes cells (cell_start i) s.len)) ≡ Good a → s.len ≤ 1_024
    go true y q f = absurd (cc)
    go false true q f = absurd (cc)
    go false false q f = ltb-false 1_024 s.len q

-- no event is known
pub no_event : (k : Known) → (k ≡ Free) ⊎ (k ≡ Bad) → refused 19 0 ≡ known_stand k
no_event k (inl e) = ap known_stand (sym e)
no_event k (inr e) = ap known_stand (sym e)

-- past the end is nothing
stand_past : (i : ℕ) (ks : List Known) → length ks ≤ i → known_stand (get_or ks i Free) ≡ refused 19 0
stand_past i ks h = rw (get_or-eq_default ks Free h)

module _ (t : List Slot) (cells : List ℕ) (i : ℕ) (many : length t ≡ 64) (b : IsBytes cells) {ks : List Known} (k : ks ≡ known_from cells 0 t) where
  pub bad_table : {n p : ℕ} → refused n p ≡ good_known cells ks → refused n p ≡ stand_of t cells i
  unfolding stand_of
  bad_table e = rw (whole.table_refused t cells many b k e)

  module _ (e : shown tt ≡ good_known cells ks) where
    good : whole.GoodTable t cells ks
    good = whole.good_table t cells many b k e

    stand_by : {x : Answer Entry} → nth i good.entries ≡ x → stand_of t cells i ≡ and_then x (standing i)
    unfolding stand_of
    stand_by e = rw (good.shows, e)

    known_count : length (known_from cells 0 t) ≡ 64
    known_count = known_length cells 0 t ∙ many

    count : length good.entries ≡ 64
    count = sym (alike_length good.alike) ∙ known_count

    no_such : 64 ≤ i → known_stand (get_or (known_from cells 0 t) i Free) ≡ stand_of t cells i
    no_such h = stand_past i (known_from cells 0 t) (omega (arith, h, known_count)) ∙ sym (stand_by (nth_none i good.entries (omega (arith, h, count))))

    -- where the event of a slot stands
    held_there : {a : Stored} {e : Event} → i < 64 → get_or (known_from cells 0 t) i Free ≡ Good a → Stands cells a e
        → ◌≡◌ {A = Answer Stand} (shown (record { at = a.at; len = a.len })) (shown (record { at = cell_start i; len = length (pack e) }))
    held_there {a} {e} h v g =
        let s = get_or t i free_slot in
        let z : 0 + i ≡ i = omega arith in
        let w : known_at cells i s ≡ Good a = ap (λ (n : ℕ). known_at cells n s) (sym z) ∙ sym (known_at_lem cells 0 i t free_slot Free (omega (arith, h, many))) ∙ v in
        let y = known_good b i s w in
        let m = good_short cells i s w in
        let at = y.3 in
        let len = y.4 in
        let n = part_length cells a.at a.len (omega (arith, h, at, len, m, good.room)) in
        let p : a.len ≡ length (pack e) = sym n ∙ ap length g.strict in
        cc

    told_by : {x : Answer Known} {y : Answer Entry} → Nth cells x y → i < 64 → x ≡ shown (get_or (known_from cells 0 t) i Free)
        → known_stand (get_or (known_from cells 0 t) i Free) ≡ and_then y (standing i)
    told_by no_slot h e = absurd (cc)
    told_by free_slot_lem h e = let v : get_or (known_from cells 0 t) i Free ≡ Free = cc in ap known_stand v
    told_by (held_slot {a} {e = d} g) h e = let v : get_or (known_from cells 0 t) i Free ≡ Good a = cc in ap known_stand v ∙ held_there h v g

    such : i < 64 → known_stand (get_or (known_from cells 0 t) i Free) ≡ stand_of t cells i
    such h =
        let n = nth_at i (known_from cells 0 t) (omega (arith, h, known_count)) in
        told_by (nth_known i good.alike) h n ∙ sym (stand_by refl)

    pub slot_told : {h : Known} → h ≡ get_or ks i Free → known_stand h ≡ stand_of t cells i
    slot_told v =
        ap known_stand v ∙ ap (λ (z : List Known). known_stand (get_or z i Free)) good.knows ∙ dite (dec_lt i 64) such (λ n. no_such (omega (arith, n)))
