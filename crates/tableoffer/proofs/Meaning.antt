-- What an offer to known slots does is what the table's own definitions say of it.
-- By the event that each slot holds, by the name that is looked for, and by the cases of the offer.
use Prim.Native.Nat.{ℕ, ◌*◌, ◌≤◌, ◌<◌}
use Rattle.std.specs.Prelude.{Option, Some, None}
use mathlib.Core.Path.{◌≡◌, refl, sym, ap, ◌∙◌, subst}
use mathlib.Core.Bool.{Bool, true, false}
use mathlib.Core.List.{List}
use native.Mathlib.Omega.{arith}
use lib.ListN.{length, take}
use lib.Dec.{ltb}
use borrow.Author.Tests.{le-leb, lt-leb, ltb-true, ltb-false}
use Rattle.scan.specs.Choice.{pick, Answer, shown, refused, and_then}
use Rattle.scan.specs.Bytes.{IsBytes}
use Rattle.buffer.proofs.Laws.{puts_eq}
use Rattle.event.specs.Event.{Event}
use Rattle.notepack.specs.declared.Head.{Head}
use Rattle.notepack.specs.Strict.{pack}
use Rattle.notepack.specs.Unpack.{unpack}
use Rattle.notepack.specs.inner.Again.{event_again}
use Rattle.notepack.specs.inner.Answers.{Walked, walk_at}
use Rattle.notepack.proofs.Again.{Accepted, accepted}
use Rattle.notepack.proofs.Walking.{walk_refuses}
use Rattle.keys.specs.declared.KeyPlace.{KeyPlace}
use Rattle.keys.specs.Key as key
use Rattle.keys.specs.Key.{key_of}
use Rattle.keys.specs.inner.Place.{key_at, key_there}
use Rattle.keys.proofs.Keys.{key_there_lem}
use Rattle.strict.proofs.Laws.{pack_written}
use Rattle.rivals.specs.Rivals.{keeps_by, keeps}
use Rattle.slots.specs.declared.Slot.{Slot}
use Rattle.archive.specs.declared.Outcome.{Outcome}
use Rattle.archive.specs.declared.Outcome.TheVariants.{New, Replaced, Loses, Held, NotKept}
use Rattle.archive.specs.Archive.{name_by, name_of, is_ephemeral, is_second, same_event, Entry, has_free, place_of, beside, wanted, fits, offered}
use Rattle.table.specs.Cells.{laid_over}
use Rattle.table.specs.Table.{entries_of}
use Rattle.table.specs.Offer.{offered_event, Offer, offer_of, offer, Place, nowhere, slot, place_by, cells_with, cells_after}
use Rattle.tableread.specs.declared.Stored.{Stored}
use Rattle.tableread.specs.declared.Known.{Known}
use Rattle.tableread.specs.inner.Prints.{print_of}
use Rattle.tableread.specs.inner.Known.{name_there, stored_bytes, find_from, free_from}
use Rattle.tableread.proofs.Knowing.{Stands}
use Rattle.tableread.proofs.Entries.{Alike}
use Rattle.tableread.proofs.Searching.{found_at, missing_none, free_at, free_none}
use Rattle.tableread.proofs.Within.{find_within, free_within}
use Rattle.tableoffer.specs.declared.Plan.{Plan}
use Rattle.tableoffer.specs.declared.Plan.TheVariants.{Put, Stays, Full}
use Rattle.tableoffer.specs.inner.Decision.{decision_at, decided}
use Rattle.tableoffer.specs.inner.Plan.{beside_stored, new_in, plan_found, plan_for, decision_by, cells_by, walked_decision, walked_cells, good_decision, good_cells}

-- what an offer comes to, with the entries and the event
abbrev pub offer_by : List Entry → Event → Answer Outcome → Answer Offer
offer_by l e a = and_then a λ r. shown (record { entries = l; event = e; outcome = r })

-- a plan is what an answer says, in the decision and in the cells
pub record Means (cells b : List ℕ) (p : Plan) (a : Answer Offer) : Type 0 where
  pub decides : decision_by p (length b) ≡ decided a
  pub leaves : cells_by p b cells ≡ cells_after a cells

-- an event that was walked over: its numbers, its id and its key as they stand in the bytes
pub record ReadAs (s : List ℕ) (h : Head) (e : Event) : Type 0 where
  pub time : e.created_at ≡ h.created_at
  pub kind : e.kind ≡ h.kind
  pub id : e.id ≡ take 32 s
  pub key : key_there s (key_at s h) ≡ key_of e

again_read : (s : List ℕ) (h : Head) → ReadAs s h (event_again s h)
unfolding event_again
again_read s h = record { time = refl; kind = refl; id = refl; key = key_there_lem s h }

module _ (cells : List ℕ) (room : length cells ≡ 65_536) (l : List Entry) (e : Event) (small : length (pack e) ≤ 1_024) where
  put_means : {i : ℕ} {r : Outcome} → i < 64 → offered l e ≡ shown r → place_by r l e ≡ slot i → Means cells (pack e) (Put i r) (offer_by l e (offered l e))
  unfolding laid_over
  put_means {i} {r} k q p =
      let o : Offer = record { entries = l; event = e; outcome = r } in
      let w = ap (λ (z : List ℕ × ℕ). z.0) (puts_eq cells (1_024 * i) (pack e) (omega (arith, k, small, room))) in
      subst (λ (a : Answer Outcome). Means cells (pack e) (Put i r) (offer_by l e a)) (sym q)
      (record { decides = ap (λ (x : Place). shown (decision_at x o)) (sym p); leaves = w ∙ ap (λ (x : Place). cells_with x e cells) (sym p) })

  stays_means : {r : Outcome} → offered l e ≡ shown r → place_by r l e ≡ nowhere → Means cells (pack e) (Stays r) (offer_by l e (offered l e))
  stays_means {r} q p =
      let o : Offer = record { entries = l; event = e; outcome = r } in
      subst (λ (a : Answer Outcome). Means cells (pack e) (Stays r) (offer_by l e a)) (sym q)
      (record { decides = ap (λ (x : Place). shown (decision_at x o)) (sym p); leaves = ap (λ (x : Place). cells_with x e cells) (sym p) })

  full_means : offered l e ≡ refused 23 0 → Means cells (pack e) Full (offer_by l e (offered l e))
  full_means q = subst (λ (a : Answer Outcome). Means cells (pack e) Full (offer_by l e a)) (sym q) (record { decides = refl; leaves = refl })

  -- an outcome that has room
  fitting : {r : Outcome} → wanted l e ≡ r → fits l r ≡ true → offered l e ≡ shown r
  unfolding offered
  fitting w f = rw (w, f)

  crowded : wanted l e ≡ New → has_free l ≡ false → offered l e ≡ refused 23 0
  unfolding offered
  crowded w f = rw (w, f)

  module _ (ks : List Known) (many : length ks ≡ 64) (u : Alike cells ks l) (s : List ℕ) (h : Head) (g : ReadAs s h e) where
    name_is : name_there s (key_at s h) ≡ name_of e
    name_is = ap (λ (i : List ℕ). name_by i (key_there s (key_at s h))) (sym g.id) ∙ ap (name_by e.id) g.key

    new_means : (f : Option ℕ) → free_from 0 ks ≡ f → wanted l e ≡ New → Means cells (pack e) (new_in f) (offer_by l e (offered l e))
    new_means (Some i) q w =
        let y = free_at cells u q in
        let k = free_within ks q in
        put_means (omega (arith, k, many)) (fitting w y.0) (ap slot (sym y.1))
    new_means None q w = full_means (crowded w (free_none cells u q))

    beside_means : (z : Option KeyPlace) → key_at s h ≡ z → (i : ℕ) (a : Stored) (d : Event) → i < 64 → Stands cells a d → i ≡ place_of (name_of e) l
        → wanted l e ≡ beside (key_of e) d e → Means cells (pack e) (beside_stored cells i a s h.created_at z (pack e)) (offer_by l e (offered l e))
    unfolding beside_stored same_event
    beside_means None q i a d k y p w =
        let m : key_of e ≡ key.keyless = sym g.key ∙ ap (key_there s) q in
        stays_means (fitting (w ∙ ap (λ (x : key.Keyed). beside x d e) m) refl) refl
    beside_means (Some c) q i a d k y p w =
        let m : key_of e ≡ key_there s (Some c) = sym g.key ∙ ap (key_there s) q in
        let n : keeps_by a.created_at h.created_at (take 32 (stored_bytes cells a)) (take 32 s) ≡ keeps d e = rw (← y.time, ← y.id, ← g.time, ← g.id) in
        let v = w ∙ ap (λ (x : key.Keyed). beside x d e) m in
        rw (n, y.strict) (by_tests (is_second (keeps d e)) (same_event d e) v)
      where
        by_tests : (t x : Bool) → wanted l e ≡ pick t Replaced (pick x Held Loses) → Means cells (pack e) (pick t (Put i Replaced) (pick x (Stays Held) (Stays Loses))) (offer_by l e (offered l e))
        by_tests true x v = put_means k (fitting v refl) (ap slot (sym p))
        by_tests false true v = stays_means (fitting v refl) refl
        by_tests false false v = stays_means (fitting v refl) refl

    found_means : (f : Option (ℕ × Stored)) → find_from cells s (key_at s h) (print_of (name_there s (key_at s h))) 0 ks ≡ f → is_ephemeral e.kind ≡ false
        → Means cells (pack e) (plan_found cells ks s h (pack e) f) (offer_by l e (offered l e))
    unfolding wanted
    found_means (Some (i, a)) q v =
        let y = found_at cells s (key_at s h) (print_of (name_there s (key_at s h))) (name_of e) (sym name_is) (ap print_of name_is) u q in
        let k = find_within cells s (key_at s h) (print_of (name_there s (key_at s h))) ks q in
        beside_means (key_at s h) refl i a y.0 (omega (arith, k, many)) y.2 y.3 (rw (v, y.1))
    found_means None q v =
        let y = missing_none cells s (key_at s h) (print_of (name_there s (key_at s h))) (name_of e) (sym name_is) (ap print_of name_is) u q in
        new_means (free_from 0 ks) refl (rw (v, y))

    pub plan_means : Means cells (pack e) (plan_for cells ks s h (pack e)) (offer_by l e (offered l e))
    unfolding plan_for wanted
    plan_means = by_kind (is_ephemeral h.kind) refl
      where
        by_kind : (t : Bool) → is_ephemeral h.kind ≡ t
            → Means cells (pack e) (pick t (Stays NotKept) (plan_found cells ks s h (pack e) (find_from cells s (key_at s h) (print_of (name_there s (key_at s h))) 0 ks))) (offer_by l e (offered l e))
        by_kind true q = let k : is_ephemeral e.kind ≡ true = ap is_ephemeral g.kind ∙ q in stays_means (fitting (rw k) refl) refl
        by_kind false q = found_means (find_from cells s (key_at s h) (print_of (name_there s (key_at s h))) 0 ks) refl (ap is_ephemeral g.kind ∙ q)

-- ---- the offer

module _ (t : List Slot) (cells : List ℕ) (room : length cells ≡ 65_536) (ks : List Known) (many : length ks ≡ 64) (l : List Entry) (u : Alike cells ks l)
    (shows : entries_of t cells ≡ shown l) (s : List ℕ) (bytes : IsBytes s) where
  offer_refused : {n q : ℕ} → offered_event (unpack s) ≡ refused n q → offer t cells s ≡ refused n q
  unfolding offer_of
  offer_refused e = rw (shows, e)

  offer_event : {e : Event} → offered_event (unpack s) ≡ shown e → offer t cells s ≡ offer_by l e (offered l e)
  unfolding offer_of
  offer_event e = rw (shows, e)

  no_event : {n q : ℕ} → unpack s ≡ refused n q → offered_event (unpack s) ≡ refused n q
  unfolding offered_event
  no_event e = rw e

  long_event : {e : Event} → unpack s ≡ shown e → 1_024 < length (pack e) → offered_event (unpack s) ≡ refused 22 0
  unfolding offered_event
  long_event {e} q k = rw (q, lt-leb (length (pack e)) 1_024 k)

  short_event : {e : Event} → unpack s ≡ shown e → length (pack e) ≤ 1_024 → offered_event (unpack s) ≡ shown e
  unfolding offered_event
  short_event {e} q k = rw (q, le-leb (length (pack e)) 1_024 k)

  abbrev Decided : Answer Walked → Type 0
  Decided r = (walked_decision cells ks s r ≡ decided (offer t cells s)) × (walked_cells cells ks s r ≡ cells_after (offer t cells s) cells)

  told : {n q : ℕ} → offer t cells s ≡ refused n q → (refused n q ≡ decided (offer t cells s)) × (cells ≡ cells_after (offer t cells s) cells)
  told q = (ap decided (sym q), ap (λ (a : Answer Offer). cells_after a cells) (sym q))

  walked : (w : Walked) → Accepted s w → Decided (shown w)
  walked w g = go (ltb 1_024 w.tally.len) refl
    where
      go : (x : Bool) → ltb 1_024 w.tally.len ≡ x → Decided (shown w)
      go true k =
          let m = ltb-true 1_024 w.tally.len k in
          rw k (told (offer_refused (long_event g.shows (omega (arith, m, g.len)))))
      go false k =
          let m = ltb-false 1_024 w.tally.len k in
          let e = event_again s w.head in
          let small : length (pack e) ≤ 1_024 = omega (arith, m, g.len) in
          let p = plan_means cells room l e small ks many u s w.head (again_read s w.head) in
          let q = offer_event (short_event g.shows small) in
          rw (k, pack_written s w g, q) (p.decides, p.leaves)

  every_walk : (r : Answer Walked) → walk_at s ≡ r → Decided r
  every_walk (shown w) e = walked w (accepted s bytes w (walk_at s) refl e)
  every_walk (refused n q) e = told (offer_refused (no_event (walk_refuses s n q e)))

  -- THE offer to a table without a bad slot
  pub good_means : (good_decision cells ks s ≡ decided (offer t cells s)) × (good_cells cells ks s ≡ cells_after (offer t cells s) cells)
  unfolding good_decision good_cells
  good_means = every_walk (walk_at s) refl
