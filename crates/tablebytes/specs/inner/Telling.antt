-- The refusals of a table's entries; `proofs/Telling` shows that there are no others. Assumes nothing.
use Rattle.std.specs.Prelude.{ℕ, ◌≤◌, ◌<◌, ◌≡◌, true, List, length}
use Rattle.scan.specs.Choice.{Answer, shown, refused}
use Rattle.event.specs.inner.Tells.{among}

-- an offer: 34 at a slot; the numbers of who read the packed event, at a place in it or at its end; 22 and 23 at 0
pub data OfferTells (numbers packed : List ℕ) {A : Type 0} : Answer A → Type 0 where
  outcome : {a : A} → OfferTells numbers packed (shown a)
  bad_table : {i : ℕ} → i < 64 → OfferTells numbers packed (refused 34 i)
  of_event : {n p : ℕ} → among numbers n ≡ true → p ≤ length packed → OfferTells numbers packed (refused n p)
  over_a_cell : OfferTells numbers packed (refused 22 0)
  full : OfferTells numbers packed (refused 23 0)

-- the event of a slot: 34 at a slot, or 19 at 0
pub data SlotTells {A : Type 0} : Answer A → Type 0 where
  found : {a : A} → SlotTells (shown a)
  bad_table : {i : ℕ} → i < 64 → SlotTells (refused 34 i)
  no_event : SlotTells (refused 19 0)
