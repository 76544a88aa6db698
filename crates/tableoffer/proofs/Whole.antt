-- The ways in which an offer to any table ends: the table's refusal, or what the good table's offer says.
use Prim.{tt}
use Prim.Native.Nat.{ℕ}
use mathlib.Core.Path.{◌≡◌, refl, ◌∙◌}
use mathlib.Core.List.{List}
use lib.ListN.{length}
use Rattle.scan.specs.Choice.{Answer, shown, refused}
use Rattle.scan.specs.Bytes.{IsBytes}
use Rattle.slots.specs.declared.Slot.{Slot}
use Rattle.table.specs.Offer.{offer, offer_of, cells_after}
use Rattle.tableread.specs.declared.Known.{Known}
use Rattle.tableread.specs.inner.Known.{known_from, good_known}
use Rattle.tableread.proofs.Turns.{known_length}
use Rattle.tableread.proofs.Whole as whole
use Rattle.tableoffer.specs.declared.Decision.{Decision}
use Rattle.tableoffer.specs.inner.Decision.{decided}
use Rattle.tableoffer.specs.inner.Plan.{good_decision, good_cells}
use Rattle.tableoffer.proofs.Meaning.{good_means}

module _ (t : List Slot) (cells packed : List ℕ) where
  abbrev Decides : Answer Decision → List ℕ → Type 0
  Decides r d = (r ≡ decided (offer t cells packed)) × (d ≡ cells_after (offer t cells packed) cells)

  module _ (many : length t ≡ 64) (bytes : IsBytes cells) {ks : List Known} (k : ks ≡ known_from cells 0 t) where
    pub bad_table : {n p : ℕ} → refused n p ≡ good_known cells ks → Decides (refused n p) cells
    unfolding offer_of
    bad_table e = rw (whole.table_refused t cells many bytes k e) (refl, refl)

    pub good_table : {r : Answer Decision} {d : List ℕ} → IsBytes packed → shown tt ≡ good_known cells ks
        → (r ≡ good_decision cells ks packed) × (d ≡ good_cells cells ks packed) → Decides r d
    good_table y e g =
        let z = whole.good_table t cells many bytes k e in
        let w = good_means t cells z.room (known_from cells 0 t) (known_length cells 0 t ∙ many) z.entries z.alike z.shows packed y in
        let v = rw z.knows at g in
        (v.0 ∙ w.0, v.1 ∙ w.1)
