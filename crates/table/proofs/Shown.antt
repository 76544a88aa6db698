-- What the question for a slot shows is the strict form of the event that the slot's entry holds, and each entry that
-- holds an event is shown so. A slot that holds an event by itself has the event's strict form; then slot by slot.
use Prim.Native.Nat.{ℕ, zero, suc, ◌+◌}
use mathlib.Core.Path.{◌≡◌, refl, sym, ap, ◌∙◌}
use mathlib.Core.Bool.{Bool, true, false}
use mathlib.Core.List.{List, [], ◌∷◌, map}
use native.Mathlib.Omega.{arith}
use lib.ListN.{length, take, drop, get_or}
use lib.Dec.{eqb, leb}
use Rattle.scan.specs.Choice.{pick, Answer, shown, refused}
use Rattle.scan.specs.Compare.{same_bytes}
use Rattle.scan.proofs.Many.{then_shown, shown_same}
use Rattle.scan.proofs.CompareLaws.{bytes_same}
use Rattle.event.specs.Event.{Event}
use Rattle.notepack.specs.Strict.{pack}
use Rattle.notepack.specs.Unpack.{unpack}
use Rattle.notepack.specs.Views.{nth}
use Rattle.slots.specs.declared.Slot.{Slot}
use Rattle.archive.specs.Archive.{Entry, free, held, is_ephemeral}
use Rattle.table.specs.Cells.{empty, past, bytes, cell_start, cell_at, cells_from}
use Rattle.table.specs.Table.{Holds, nothing, bad, good, held_by, holds, slots_hold, entries_of}
use Rattle.table.specs.Standing.{Stand, standing, stand_of}
use Rattle.table.proofs.Entries.{Alike, over, full}
use Rattle.table.proofs.Entries as entries
use Rattle.table.proofs.Good.{table_good}

-- ---- one slot

nothing_good : {A : Type 0} {e : Event} → nothing ≡ good e → A
nothing_good q = let z : ◌≡◌ {A = ℕ} 0 1 = cc in absurd (omega arith)

bad_good : {A : Type 0} {e : Event} → bad ≡ good e → A
bad_good q = let z : ◌≡◌ {A = ℕ} 0 1 = cc in absurd (omega arith)

held_form : (b : List ℕ) (a : Answer Event) (e : Event) → held_by b a ≡ good e → b ≡ pack e
held_form b (refused n p) e q = bad_good q
held_form b (shown d) e q = by (same_bytes b (pack d)) refl (is_ephemeral d.kind) q
  where
    by : (t : Bool) → same_bytes b (pack d) ≡ t → (u : Bool) → pick t (pick u bad (good d)) bad ≡ good e → b ≡ pack e
    by true h true q = bad_good q
    by true h false q = let f : d ≡ e = cc in bytes_same b (pack d) h ∙ ap pack f
    by false h u q = bad_good q

-- as many bytes as were taken
take_long : (n : ℕ) (l b : List ℕ) → take n l ≡ b → take (length b) l ≡ b
take_long n l b q = rw (← q) (go n l)
  where
    go : (n : ℕ) (l : List ℕ) → take (length (take n l)) l ≡ take n l
    go zero l = refl
    go (suc n) [] = refl
    go (suc n) (x ∷ l) = ap (λ (k : List ℕ). x ∷ k) (go n l)

cell_form : (cells : List ℕ) (i : ℕ) (s : Slot) (e : Event) → holds (cell_at cells i s) ≡ good e → take (length (pack e)) (drop (cell_start i) cells) ≡ pack e
unfolding cell_at
cell_form cells i s e q = by (eqb s.mark 0) (leb s.len 1_024) q
  where
    by : (t u : Bool) → holds (pick t empty (pick u (bytes (take s.len (drop (cell_start i) cells))) past)) ≡ good e → take (length (pack e)) (drop (cell_start i) cells) ≡ pack e
    by true u q = nothing_good q
    by false true q =
        let b = take s.len (drop (cell_start i) cells) in
        take_long s.len (drop (cell_start i) cells) (pack e) (held_form b (unpack b) e q)
    by false false q = bad_good q

-- ---- slot by slot

slot_form : (cells : List ℕ) (i j n : ℕ) (slots : List Slot) (e : Event) → i + n ≡ j → get_or (map holds (cells_from cells i slots)) n nothing ≡ good e
    → take (length (pack e)) (drop (cell_start j) cells) ≡ pack e
slot_form cells i j n [] e h q = nothing_good q
slot_form cells i j zero (s ∷ l) e h q = let k : i ≡ j = omega arith in rw (← k) (cell_form cells i s e q)
slot_form cells i j (suc n) (s ∷ l) e h q = slot_form cells (suc i) j n l e (omega arith) q

free_held : {A : Type 0} {d : Event} → free ≡ held d → A
free_held q = let z : ◌≡◌ {A = ℕ} 0 1 = cc in absurd (omega arith)

alike_good : {l : List Holds} {s : List Entry} → Alike l s → (n : ℕ) (e : Event) → get_or s n free ≡ held e → get_or l n nothing ≡ good e
alike_good over n e q = free_held q
alike_good (entries.empty a) zero e q = free_held q
alike_good (entries.empty a) (suc n) e q = alike_good a n e q
alike_good (full {e = d} a) zero e q = let f : d ≡ e = cc in ap good f
alike_good (full a) (suc n) e q = alike_good a n e q

-- The cell of a slot whose entry holds an event begins with the event's strict form.
pub held_bytes : (slots : List Slot) (cells : List ℕ) (s : List Entry) → entries_of slots cells ≡ shown s → (n : ℕ) (e : Event) → get_or s n free ≡ held e
    → take (length (pack e)) (drop (cell_start n) cells) ≡ pack e
unfolding slots_hold
held_bytes slots cells s q n e h = slot_form cells 0 n n slots e (omega arith) (alike_good (table_good slots cells s q).told.alike n e h)

-- ---- the question for a slot

nth_get_d : (n : ℕ) (s : List Entry) (x : Entry) → nth n s ≡ shown x → get_or s n free ≡ x
nth_get_d n [] x q = let z : ◌≡◌ {A = ℕ} 0 1 = cc in absurd (omega arith)
nth_get_d zero (y ∷ s) x q = shown_same q
nth_get_d (suc n) (y ∷ s) x q = nth_get_d n s x q

get_d_nth : (n : ℕ) (s : List Entry) (e : Event) → get_or s n free ≡ held e → nth n s ≡ shown (held e)
get_d_nth n [] e q = free_held q
get_d_nth zero (y ∷ s) e q = ap shown q
get_d_nth (suc n) (y ∷ s) e q = get_d_nth n s e q

-- What stands where the question for slot n says is the strict form of the event that entry n holds.
pub stand_bytes_lem : (slots : List Slot) (cells : List ℕ) (n : ℕ) (p : Stand) → stand_of slots cells n ≡ shown p
    → (s : List Entry) × (e : Event) × (entries_of slots cells ≡ shown s) × (get_or s n free ≡ held e) × (take p.len (drop p.at cells) ≡ pack e)
unfolding stand_of
stand_bytes_lem slots cells n p q =
    let t = then_shown (entries_of slots cells) _ p q in
    let u = then_shown (nth n t.0) _ p t.2 in
    by t.0 t.1 u.0 (nth_get_d n t.0 u.0 u.1) u.2
  where
    by : (s : List Entry) → entries_of slots cells ≡ shown s → (x : Entry) → get_or s n free ≡ x → standing n x ≡ shown p
        → (s : List Entry) × (e : Event) × (entries_of slots cells ≡ shown s) × (get_or s n free ≡ held e) × (take p.len (drop p.at cells) ≡ pack e)
    by s r free h k = let z : ◌≡◌ {A = ℕ} 0 1 = cc in absurd (omega arith)
    by s r (held e) h k =
        let f : record { at = cell_start n; len = length (pack e) } ≡ p = shown_same k in
        (s, e, r, h, ap (λ (x : Stand). take x.len (drop x.at cells)) (sym f) ∙ held_bytes slots cells s r n e h)

-- Each entry that holds an event is shown by the question for its slot.
pub held_stands : (slots : List Slot) (cells : List ℕ) (s : List Entry) → entries_of slots cells ≡ shown s → (n : ℕ) (e : Event) → get_or s n free ≡ held e
    → (p : Stand) × (stand_of slots cells n ≡ shown p) × (take p.len (drop p.at cells) ≡ pack e)
unfolding stand_of
held_stands slots cells s q n e h =
    (record { at = cell_start n; len = length (pack e) }, rw (q, get_d_nth n s e h), held_bytes slots cells s q n e h)
