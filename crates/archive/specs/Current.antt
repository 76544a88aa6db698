-- Which event is the current one under a name (rules 15): of all that were offered the latest, and of those the one
-- with the lowest id. Assumes nothing.
use Rattle.std.specs.Prelude.{◌≤◌, ◌≡◌, false, List, [], ◌∷◌}
use Rattle.scan.specs.Choice.{shown}
use Rattle.scan.specs.Compare.{lower}
use Rattle.event.specs.Event.{Event}
use Rattle.archive.specs.declared.Outcome.{Outcome}
use Rattle.archive.specs.Archive.{Name, name_of, Entry, free, Found, none, one, offered, act}

-- e is in the list
pub data Among (e : Event) : List Event → Type 0 where
  here : {es : List Event} → Among e (e ∷ es)
  there : {d : Event} {es : List Event} → Among e es → Among e (d ∷ es)

-- d is as late as e or later, and where both are as late, e's id is not the lower
pub record Latest (d e : Event) : Type 0 where
  pub time : e.created_at ≤ d.created_at
  pub id : e.created_at ≡ d.created_at → lower e.id d.id ≡ false

-- what is found under a name is, of the events in P with that name, the current one; nothing where there are none
pub data Current (P : Event → Type 0) (n : Name) : Found → Type 0 where
  absent : ((e : Event) → P e → name_of e ≡ n → ⊥) → Current P n none
  current : {d : Event} → P d → name_of d ≡ n → ((e : Event) → P e → name_of e ≡ n → Latest d e) → Current P n (one d)

-- every slot is free
pub data Emptied : List Entry → Type 0 where
  end : Emptied []
  more : {s : List Entry} → Emptied s → Emptied (free ∷ s)

-- a run of offers from s to t, none refused
pub data Took : List Entry → List Event → List Entry → Type 0 where
  stop : {s : List Entry} → Took s [] s
  next : {s t : List Entry} {e : Event} {es : List Event} (r : Outcome) → offered s e ≡ shown r → Took (act r e s) es t → Took s (e ∷ es) t
