-- What an offer of an input of either form answers and leaves: 34 first of all, then the refusals of the input, moved.
-- A bad table answers 34 whatever is offered, a good one hands on the refusal of the input.
use Prim.Native.Nat.{ℕ}
use mathlib.Core.Path.{◌≡◌, refl, ap, ◌∙◌}
use mathlib.Core.Bool.{Bool, false}
use mathlib.Core.List.{List, []}
use lib.ListN.{drop}
use Rattle.scan.specs.Choice.{Answer, shown, refused}
use Rattle.scan.proofs.Step.{false_true}
use Rattle.event.specs.Event.{Event}
use Rattle.notepack.specs.Unpack.{payload_at, head_at, packed_at, unpack}
use Rattle.notepack.proofs.Telling.{unpack_tells}
use Rattle.archive.specs.declared.Outcome.{Outcome}
use Rattle.table.specs.Offer.{Offer, outcome_of, cells_after}
use Rattle.tablebytes.specs.Entries.{table_offer_of, table_offer, bytes_after}
use Rattle.tablebytes.specs.inner.Telling.{OfferTells, outcome, bad_table, of_event, over_a_cell, full}
use Rattle.tablebytes.proofs.Checked.{Checked, bad, good, checked}
use Rattle.versioned.specs.Versioned.{start_of, given}
use Rattle.versioned.specs.inner.Moved.{is_readers, moved_place, moved}
use Rattle.versioned.proofs.Moving.{other_stays, given_start}
use Rattle.eitherform.specs.inner.Nothing.{nothing_offered}

module _ (slots cells : List ℕ) where
  -- what an offer answers, and what the two buffers then hold
  pub record Leaves (t : Answer Outcome) (u v : List ℕ) (a : Answer Event) : Type 0 where
    pub answers : t ≡ outcome_of (table_offer_of slots cells a)
    pub slots_left : u ≡ bytes_after (table_offer_of slots cells a) slots
    pub cells_left : v ≡ cells_after (table_offer_of slots cells a) cells

  -- nothing is offered: it is refused
  empty_refused : unpack [] ≡ refused 2 0
  unfolding unpack packed_at head_at payload_at
  empty_refused = refl

  -- the input has no start: 34 of an offer of nothing, or why it has none
  pub no_start : {n p : ℕ} {t : Answer Outcome} {u v : List ℕ} → t ≡ outcome_of (table_offer slots cells []) → u ≡ bytes_after (table_offer slots cells []) slots
      → v ≡ cells_after (table_offer slots cells []) cells → Leaves (nothing_offered t n p) u v (refused n p)
  no_start {n} {p} {t} {u} {v} e f g = by (checked slots cells)
    where
      by : Checked slots cells → Leaves (nothing_offered t n p) u v (refused n p)
      by (bad i h) =
          let q = rw (h (unpack [])) at e in
          record { answers = rw (q, h (refused n p)); slots_left = rw (h (unpack [])) at f ∙ rw (h (refused n p)); cells_left = rw (h (unpack [])) at g ∙ rw (h (refused n p)) }
      by (good h k) =
          let z = ap (table_offer_of slots cells) empty_refused ∙ h 2 0 in
          let q = rw z at e in
          record { answers = rw (q, h n p); slots_left = rw z at f ∙ rw (h n p); cells_left = rw z at g ∙ rw (h n p) }

  -- an answer that is none of the reader's numbers is not moved
  stays : {A : Type 0} (b : Bool) (n p : ℕ) → is_readers n ≡ false → ◌≡◌ {A = Answer A} (moved b (refused n p)) (refused n p)
  stays b n p h = ap (λ (q : ℕ). refused n q) (other_stays b n p h)

  still : (b : Bool) {y : Answer Offer} → OfferTells [] [] y → moved b (outcome_of y) ≡ outcome_of y
  unfolding is_readers
  still b outcome = refl
  still b (bad_table {i = i} h) = stays b 34 i refl
  still b (of_event h k) = absurd (false_true h)
  still b over_a_cell = stays b 22 0 refl
  still b full = stays b 23 0 refl

  -- what was read, moved before the offer or behind it
  moved_offer : (b : Bool) (x : Answer Event) → Leaves (moved b (outcome_of (table_offer_of slots cells x))) (bytes_after (table_offer_of slots cells x) slots)
      (cells_after (table_offer_of slots cells x) cells) (moved b x)
  unfolding is_readers
  moved_offer b x = by (checked slots cells) x
    where
      by : Checked slots cells → (y : Answer Event)
          → Leaves (moved b (outcome_of (table_offer_of slots cells y))) (bytes_after (table_offer_of slots cells y) slots) (cells_after (table_offer_of slots cells y) cells) (moved b y)
      by (bad i h) y = rw (h y) record { answers = stays b 34 i refl ∙ rw (h (moved b y)); slots_left = rw (h (moved b y)); cells_left = rw (h (moved b y)) }
      by (good h k) (shown e) = record { answers = still b (k e); slots_left = refl; cells_left = refl }
      by (good h k) (refused n p) =
          rw (h n p) record { answers = rw (h n (moved_place b n p)); slots_left = rw (h n (moved_place b n p)); cells_left = rw (h n (moved_place b n p)) }

  -- the bare bytes t of the input s were offered
  pub offered_start : (b : Bool) (s : List ℕ) {k : ℕ} → start_of b s ≡ shown k → {t : List ℕ} → t ≡ drop k s → {x : Answer Outcome} {u v : List ℕ}
      → x ≡ outcome_of (table_offer slots cells t) → u ≡ bytes_after (table_offer slots cells t) slots → v ≡ cells_after (table_offer slots cells t) cells
      → Leaves (moved b x) u v (given b unpack s)
  offered_start b s {k} e r q f g =
      let m = moved_offer b (unpack (drop k s)) in
      let z = given_start s b unpack e (unpack_tells (drop k s)) in
      rw z
      record {
        answers = ap (moved b) (q ∙ ap (λ (l : List ℕ). outcome_of (table_offer slots cells l)) r) ∙ m.answers;
        slots_left = f ∙ ap (λ (l : List ℕ). bytes_after (table_offer slots cells l) slots) r ∙ m.slots_left;
        cells_left = g ∙ ap (λ (l : List ℕ). cells_after (table_offer slots cells l) cells) r ∙ m.cells_left;
      }
