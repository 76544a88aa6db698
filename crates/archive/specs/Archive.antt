-- What a table keeps of the events that are offered to it (rules 15): each under its key, or under its id where it has
-- no key. Says nothing of bytes. Assumes nothing.
use Rattle.std.specs.Prelude.{ℕ, zero, suc, Bool, true, false, List, [], ◌∷◌}
use Rattle.scan.specs.Choice.{pick, Answer, shown, refused}
use Rattle.scan.specs.Compare.{same_bytes}
use Rattle.scan.specs.Place.{within}
use Rattle.event.specs.Event.{Event}
use Rattle.notepack.specs.Strict.{pack}
use Rattle.keys.specs.Key.{Key, Keyed, keyless, keyed, key_of, same_key}
use Rattle.rivals.specs.declared.Kept.{Kept}
use Rattle.rivals.specs.declared.Kept.TheVariants.{First, Second, NotRivals}
use Rattle.rivals.specs.Rivals.{keeps}
use Rattle.archive.specs.declared.Outcome.{Outcome}
use Rattle.archive.specs.declared.Outcome.TheVariants.{New, Replaced, Loses, Held, NotKept}

-- what an event is kept under: its key, or its id where it has no key
pub data Name : Type 0 where
  under : Key → Name
  alone : List ℕ → Name

-- the name by an id and a key
abbrev pub name_by : List ℕ → Keyed → Name
name_by id keyless = alone id
name_by id (keyed k) = under k

abbrev pub name_of : Event → Name
name_of e = name_by e.id (key_of e)

-- a key is never the same as an id
abbrev pub same_name : Name → Name → Bool
same_name (under a) (under b) = same_key (keyed a) (keyed b)
same_name (under a) (alone j) = false
same_name (alone i) (under b) = false
same_name (alone i) (alone j) = same_bytes i j

-- a slot of the table: free, or with the event that it holds
pub data Entry : Type 0 where
  free : Entry
  held : Event → Entry

pub data Found : Type 0 where
  none : Found
  one : Event → Found

-- what is kept under a name
abbrev pub lookup : Name → List Entry → Found
lookup n [] = none
lookup n (free ∷ s) = lookup n s
lookup n (held d ∷ s) = pick (same_name n (name_of d)) (one d) (lookup n s)

abbrev pub has_free : List Entry → Bool
has_free [] = false
has_free (free ∷ s) = true
has_free (held d ∷ s) = has_free s

-- the lowest free slot takes the event
abbrev pub fill : Event → List Entry → List Entry
fill e [] = []
fill e (free ∷ s) = held e ∷ s
fill e (held d ∷ s) = held d ∷ fill e s

-- the slot of the event's rival takes the event
abbrev pub swap : Event → List Entry → List Entry
swap e [] = []
swap e (free ∷ s) = free ∷ swap e s
swap e (held d ∷ s) = pick (same_name (name_of e) (name_of d)) (held e ∷ s) (held d ∷ swap e s)

-- how many slots stand before the first free one
abbrev pub first_free : List Entry → ℕ
first_free [] = zero
first_free (free ∷ s) = zero
first_free (held d ∷ s) = suc (first_free s)

-- how many slots stand before the first whose event has the name
abbrev pub place_of : Name → List Entry → ℕ
place_of n [] = zero
place_of n (free ∷ s) = suc (place_of n s)
place_of n (held d ∷ s) = pick (same_name n (name_of d)) zero (suc (place_of n s))

-- ---- an offer

-- kinds 20000 to 29999 are not kept
unfoldable pub is_ephemeral : ℕ → Bool
is_ephemeral k = within 20_000 29_999 k

-- equal in all seven: one strict form (`Laws.same_event_lem`)
unfoldable pub same_event : Event → Event → Bool
same_event d e = same_bytes (pack d) (pack e)

abbrev pub is_second : Kept → Bool
is_second First = false
is_second Second = true
is_second NotRivals = false

-- the offered event e beside d, which is kept under its name: with no key it is held; with a key the later one stays,
-- then the one with the lower id, then d, which e is equal to or loses to
abbrev pub beside : Keyed → Event → Event → Outcome
beside keyless d e = Held
beside (keyed k) d e = pick (is_second (keeps d e)) Replaced (pick (same_event d e) Held Loses)

abbrev pub versus : Found → Event → Outcome
versus none e = New
versus (one d) e = beside (key_of e) d e

-- what an offer comes to, if there is room
unfoldable pub wanted : List Entry → Event → Outcome
wanted s e = pick (is_ephemeral e.kind) NotKept (versus (lookup (name_of e) s) e)

-- whether there is room for it: a new one needs a free slot
abbrev pub fits : List Entry → Outcome → Bool
fits s New = has_free s
fits s Replaced = true
fits s Loses = true
fits s Held = true
fits s NotKept = true

-- what an offer comes to; 23 where a new slot is needed and none is free
unfoldable pub offered : List Entry → Event → Answer Outcome
offered s e = pick (fits s (wanted s e)) (shown (wanted s e)) (refused 23 0)

-- the table afterwards
abbrev pub act : Outcome → Event → List Entry → List Entry
act New e s = fill e s
act Replaced e s = swap e s
act Loses e s = s
act Held e s = s
act NotKept e s = s
