-- The ways in which an offer to a table without a bad slot ends, from the walk over the event that is offered.
use Prim.Native.Nat.{ℕ, ◌≤◌, ◌<◌}
use Rattle.std.specs.Prelude.{Option, Some, None, Ok}
use mathlib.Core.Path.{◌≡◌, refl, ◌∙◌}
use mathlib.Core.List.{List}
use native.Mathlib.Omega.{arith}
use lib.ListN.{length, get_or, take, drop}
use borrow.Author.Tests.{le-ltb}
use Rattle.scan.specs.Choice.{Answer}
use Rattle.scan.proofs.AllLaws.{all_places}
use Rattle.scan.proofs.Step.{pick_by}
use Rattle.buffer.specs.inner.Store.{Wrote}
use Rattle.buffer.proofs.Places.{stands_whole}
use Rattle.notepack.specs.declared.Head.{Head}
use Rattle.notepack.specs.declared.Tally.{Tally}
use Rattle.notepack.specs.inner.Answers.{walk, walk_at}
use Rattle.notepack.proofs.Again.{accepted}
use Rattle.keys.specs.declared.KeyPlace.{KeyPlace}
use Rattle.keys.specs.inner.Place.{key_at}
use Rattle.strict.specs.inner.Copy.{packed_pieces}
use Rattle.strict.proofs.Laws.{pack_written}
use Rattle.rivals.specs.Rivals.{keeps_by}
use Rattle.scan.specs.Compare.{same_bytes}
use Rattle.archive.specs.Archive.{is_ephemeral, is_second}
use Rattle.tableread.specs.declared.Stored.{Stored}
use Rattle.tableread.specs.declared.Known.{Known}
use Rattle.tableread.specs.inner.Prints.{print_of}
use Rattle.tableread.specs.inner.Known.{name_there, stored_bytes, find_from, free_from}
use Rattle.tableread.proofs.Within.{find_within, free_within}
use Rattle.tableoffer.specs.declared.Decision.{Decision}
use Rattle.tableoffer.specs.declared.Plan.{Plan}
use Rattle.tableoffer.specs.inner.Plan.{beside_stored, new_in, plan_found, plan_for, place_number, decision_by, cells_by, good_decision, good_cells}

-- ---- the slot of a plan is one of the slots

beside_within : (cells : List ℕ) (i n : ℕ) (a : Stored) (s : List ℕ) (time : ℕ) (key : Option KeyPlace) (b : List ℕ) → 0 < n → i < n → place_number (beside_stored cells i a s time key b) < n
unfolding beside_stored
beside_within cells i n a s time None b z h = z
beside_within cells i n a s time (Some k) b z h =
    pick_by (λ (p : Plan). place_number p < n) (is_second (keeps_by a.created_at time (take 32 (stored_bytes cells a)) (take 32 s)))
    (λ _. h) (λ _. pick_by (λ (p : Plan). place_number p < n) (same_bytes (stored_bytes cells a) b) (λ _. z) (λ _. z))

new_within : (ks : List Known) (n : ℕ) → 0 < n → length ks ≡ n → (l : Option ℕ) → free_from 0 ks ≡ l → place_number (new_in l) < n
new_within ks n z m (Some i) e = let h = free_within ks e in omega (arith, h, m)
new_within ks n z m None e = z

module _ (cells : List ℕ) (ks : List Known) (s : List ℕ) (h : Head) (b : List ℕ) (n : ℕ) (z : 0 < n) (m : length ks ≡ n) where
  found_within : (f : Option (ℕ × Stored)) → find_from cells s (key_at s h) (print_of (name_there s (key_at s h))) 0 ks ≡ f → place_number (plan_found cells ks s h b f) < n
  found_within (Some (i, a)) e =
      let k = find_within cells s (key_at s h) (print_of (name_there s (key_at s h))) ks e in
      beside_within cells i n a s h.created_at (key_at s h) b z (omega (arith, k, m))
  found_within None e = new_within ks n z m (free_from 0 ks) refl

  pub plan_within : place_number (plan_for cells ks s h b) < n
  unfolding plan_for
  plan_within =
      pick_by (λ (p : Plan). place_number p < n) (is_ephemeral h.kind) (λ _. z)
      (λ _. found_within (find_from cells s (key_at s h) (print_of (name_there s (key_at s h))) 0 ks) refl)

-- ---- the event that is offered

-- the strict bytes stand whole in a scratch of 1,024 bytes
pub scratch_stands : (s : List ℕ) {h : Head} {t : Tally} → ((i : ℕ) → get_or s i 0 < 256) → walk (Ok (h, t)) ≡ walk_at s → t.len ≤ 1_024
    → {d d' b : List ℕ} {n : ℕ} → length d ≡ 1_024 → Wrote d 0 (packed_pieces s h) d' n → b ≡ take n (drop 0 d') → b ≡ packed_pieces s h
scratch_stands s {h} {t} y u l m w g =
    let x = accepted s (all_places s y) (record { head = h; tally = t }) _ u refl in
    let k : length (packed_pieces s h) ≤ 1_024 = rw (pack_written s (record { head = h; tally = t }) x) (omega (arith, x.len, l)) in
    g ∙ stands_whole (omega (arith, k, m)) w

-- what was planned and done with them is the offer
pub good_done : (cells : List ℕ) (ks : List Known) (s : List ℕ) {h : Head} {t : Tally} → walk (Ok (h, t)) ≡ walk_at s → t.len ≤ 1_024
    → {b c : List ℕ} {p : Plan} {r : Answer Decision} → b ≡ packed_pieces s h → p ≡ plan_for cells ks s h b
    → (r ≡ decision_by p (length b)) × (c ≡ cells_by p b cells) → (r ≡ good_decision cells ks s) × (c ≡ good_cells cells ks s)
unfolding good_decision good_cells
good_done cells ks s {t = t} u l i j g = rw (← u, le-ltb 1_024 t.len l, ← i, ← j) g
