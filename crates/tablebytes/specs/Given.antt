-- A run of offers of either form to a lent table (rules 12.6 and 17.7), as the entry for C has it: of each input the
-- caller says whether it is bare. It is a run of offers of bare bytes, of the same events, that leaves the same
-- buffers: so all that `Runs` says of a run holds of it. `proofs/Given` proves it. Assumes nothing.
use Rattle.std.specs.Prelude.{ℕ, ◌≡◌, Bool, List, [], ◌∷◌}
use Rattle.scan.specs.Choice.{shown}
use Rattle.scan.specs.Bytes.{IsBytes}
use Rattle.event.specs.Event.{Event}
use Rattle.notepack.specs.Unpack.{unpack}
use Rattle.versioned.specs.Versioned.{given}
use Rattle.table.specs.Offer.{Offer, cells_after}
use Rattle.tablebytes.specs.Entries.{table_offer_of, bytes_after}
use Rattle.tablebytes.specs.Runs.{Lent, Ran}

-- an input, and what is said of it
pub record Said : Type 0 where
  pub bytes : List ℕ
  pub bare : Bool

-- the buffers as an offer of it leaves them
unfoldable pub after_given : Lent → Said → Lent
after_given t p =
    record {
      slots = bytes_after (table_offer_of t.slots t.cells (given p.bare unpack p.bytes)) t.slots;
      cells = cells_after (table_offer_of t.slots t.cells (given p.bare unpack p.bytes)) t.cells;
    }

-- A run of offers from t to u, none refused: the inputs, and the events that were offered.
pub data RanGiven : Lent → List Said → List Event → Lent → Type 0 where
  stop : {t : Lent} → RanGiven t [] [] t
  next : {t u : Lent} {p : Said} {ps : List Said} {es : List Event} {o : Offer} → IsBytes p.bytes
      → table_offer_of t.slots t.cells (given p.bare unpack p.bytes) ≡ shown o → RanGiven (after_given t p) ps es u → RanGiven t (p ∷ ps) (o.event ∷ es) u

-- The event that an offer is about is the one that the input shows, in the form that it is said to have.
abbrev pub ShowsOfferedGiven : Type 0
ShowsOfferedGiven =
    (t : Lent) (p : Said) (o : Offer) → table_offer_of t.slots t.cells (given p.bare unpack p.bytes) ≡ shown o
    → given p.bare unpack p.bytes ≡ shown o.event

-- It is a run of bare offers of the same events.
abbrev pub RunsAsBare : Type 0
RunsAsBare = (t u : Lent) (ps : List Said) (es : List Event) → RanGiven t ps es u → (qs : List (List ℕ)) × Ran t qs es u
