-- A run of offers of either form is a run of offers of the bare bytes, each of the event that its input shows.
-- Offer by offer: one that is not refused is that of the bare bytes behind the start.
use Prim.Native.Nat.{ℕ}
use mathlib.Core.Path.{◌≡◌, refl, sym, ap, subst, ◌∙◌}
use mathlib.Core.Bool.{Bool}
use mathlib.Core.List.{List, [], ◌∷◌}
use lib.ListN.{drop}
use Rattle.scan.specs.Choice.{Answer, shown, refused}
use Rattle.scan.proofs.AllLaws.{all_drop}
use Rattle.event.specs.Event.{Event}
use Rattle.notepack.specs.Unpack.{unpack}
use Rattle.versioned.specs.Versioned.{start_of, given}
use Rattle.versioned.proofs.Starting.{clash, given_shown}
use Rattle.table.specs.Offer.{Offer}
use Rattle.tablebytes.specs.Entries.{table_offer_of, table_offer}
use Rattle.tablebytes.specs.Runs.{Lent, after, Ran}
use Rattle.tablebytes.specs.Runs as runs
use Rattle.tablebytes.specs.Given.{Said, after_given, stop, next, ShowsOfferedGiven, RunsAsBare}
use Rattle.tablebytes.proofs.Checked.{Checked, bad, good, checked}
use Rattle.tablebytes.proofs.Runs.{shows_offered}

-- an offer that is not refused is the offer of the bare bytes
pub offer_bare : (slots cells : List ℕ) (b : Bool) (s : List ℕ) {o : Offer} → table_offer_of slots cells (given b unpack s) ≡ shown o
    → (k : ℕ) × (start_of b s ≡ shown k) × (table_offer slots cells (drop k s) ≡ shown o)
offer_bare slots cells b s {o} q = go (given b unpack s) refl q (checked slots cells)
  where
    go : (x : Answer Event) → given b unpack s ≡ x → table_offer_of slots cells x ≡ shown o → Checked slots cells
        → (k : ℕ) × (start_of b s ≡ shown k) × (table_offer slots cells (drop k s) ≡ shown o)
    go (shown e) h r c = let k = given_shown b unpack s h in (k.0, k.1, ap (table_offer_of slots cells) k.2 ∙ r)
    go (refused n p) h r (bad i z) = clash (sym (z (refused n p)) ∙ r)
    go (refused n p) h r (good z k) = clash (sym (z n p) ∙ r)

-- of the event that the input shows
pub shows_given : ShowsOfferedGiven
unfolding given
shows_given t p o q =
    let k = offer_bare t.slots t.cells p.bare p.bytes q in
    rw (k.1, shows_offered t (drop k.0 p.bytes) o k.2)

-- and leaves the same buffers
same_after : (t : Lent) (p : Said) (q : List ℕ) {o : Offer} → table_offer_of t.slots t.cells (given p.bare unpack p.bytes) ≡ shown o
    → table_offer t.slots t.cells q ≡ shown o → after_given t p ≡ after t q
unfolding after_given after
same_after t p q g h = rw (g, h)

-- THE run
pub runs_as_bare : RunsAsBare
runs_as_bare t u ps es stop = ([], runs.Ran.stop)
runs_as_bare t u ps es (next {p = p} {es = fs} {o = o} y q r) =
    let k = offer_bare t.slots t.cells p.bare p.bytes q in
    let v = runs_as_bare (after_given t p) u _ fs r in (
      drop k.0 p.bytes ∷ v.0,
      runs.Ran.next (all_drop k.0 y) k.2 (subst (λ (x : Lent). Ran x v.0 fs u) (same_after t p (drop k.0 p.bytes) q k.2) v.1),
    )
