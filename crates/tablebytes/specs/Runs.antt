-- What a lent table holds after any run of calls (rules 15), sentence by sentence: each formal line stands under the
-- words that it is of. `proofs/Runs`, `proofs/Shown` and `proofs/Unrefused` prove them all. Assumes nothing.
use Rattle.std.specs.Prelude.{ℕ, ◌≤◌, ◌≡◌, false, List, [], ◌∷◌, map, length, replicate, take, drop}
use Rattle.scan.specs.Choice.{Answer, shown, and_then}
use Rattle.scan.specs.Bytes.{All, IsBytes}
use Rattle.event.specs.Event.{Event, Valid}
use Rattle.notepack.specs.Strict.{pack}
use Rattle.notepack.specs.Unpack.{unpack}
use Rattle.keys.specs.Key.{Key, keyless, key_of}
use Rattle.archive.specs.Archive.{Name, under, alone, name_of, is_ephemeral, Entry, Found, one, lookup}
use Rattle.archive.specs.Current.{Among, Current}
use Rattle.table.specs.Standing.{Stand}
use Rattle.table.specs.Offer.{Offer, cells_after}
use Rattle.tablebytes.specs.Entries.{table_entries, table_offer, bytes_after, table_slot, sized, zeroed}

-- the two lent buffers
pub record Lent : Type 0 where
  pub slots : List ℕ
  pub cells : List ℕ

-- as emptying leaves them: zero bytes, 1,024 and 65,536
unfoldable pub emptied : Lent
emptied = record { slots = replicate 1_024 0; cells = replicate 65_536 0 }

-- Emptying buffers of a table's sizes leaves the emptied table, whatever they held.
abbrev pub Empties : Type 0
Empties = (t : Lent) (v : ℕ) → sized t.slots t.cells ≡ shown v
    → (zeroed (sized t.slots t.cells) t.slots ≡ emptied.slots) × (zeroed (sized t.slots t.cells) t.cells ≡ emptied.cells)

-- as an offer of p leaves them
unfoldable pub after : Lent → List ℕ → Lent
after t p = record { slots = bytes_after (table_offer t.slots t.cells p) t.slots; cells = cells_after (table_offer t.slots t.cells p) t.cells }

-- A run of offers from t to u, none refused: the inputs, and the events that were offered.
pub data Ran : Lent → List (List ℕ) → List Event → Lent → Type 0 where
  stop : {t : Lent} → Ran t [] [] t
  next : {t u : Lent} {p : List ℕ} {ps : List (List ℕ)} {es : List Event} {o : Offer} → IsBytes p → table_offer t.slots t.cells p ≡ shown o
      → Ran (after t p) ps es u → Ran t (p ∷ ps) (o.event ∷ es) u

-- The event that was offered is the one that the input shows.
abbrev pub ShowsOffered : Type 0
ShowsOffered = (t : Lent) (p : List ℕ) (o : Offer) → table_offer t.slots t.cells p ≡ shown o → unpack p ≡ shown o.event

-- what the buffers hold under a name
unfoldable pub kept_under : Lent → Name → Answer Found
kept_under t n = and_then (table_entries t.slots t.cells) λ s. shown (lookup n s)

-- What the question for a slot shows is the strict form of an event, and it is the one that is kept under its name.
abbrev pub ShowsKept : Type 0
ShowsKept =
    (t : Lent) (n : ℕ) (p : Stand) → table_slot t.slots t.cells n ≡ shown p
    → (e : Event) × (take p.len (drop p.at t.cells) ≡ pack e) × (kept_under t (name_of e) ≡ shown (one e))

-- Each event that is kept is shown by some slot.
abbrev pub KeptIsShown : Type 0
KeptIsShown =
    (t : Lent) (m : Name) (e : Event) → kept_under t m ≡ shown (one e)
    → (n : ℕ) × (p : Stand) × (table_slot t.slots t.cells n ≡ shown p) × (take p.len (drop p.at t.cells) ≡ pack e)

-- A table that was emptied is not bad after any run: 34 does not come.
abbrev pub NeverBad : Type 0
NeverBad = (ps : List (List ℕ)) (es : List Event) (t : Lent) → Ran emptied ps es t → (s : List Entry) × (table_entries t.slots t.cells ≡ shown s)

-- After any offers in any order to an emptied table, none refused, each key holds, of the events offered with it, the
-- one with the latest created_at, and of those the one with the lowest id; nothing where none was offered.
abbrev pub HoldsCurrent : Type 0
HoldsCurrent =
    (ps : List (List ℕ)) (es : List Event) (t : Lent) → Ran emptied ps es t
    → (k : Key) → (f : Found) × (kept_under t (under k) ≡ shown f) × Current (λ e. Among e es) (under k) f

-- After a run from an emptied table each event that was offered without a key, and is not ephemeral, is kept under its
-- id, if no two different ones of the events have one id.
abbrev pub HoldsAlone : Type 0
HoldsAlone =
    (ps : List (List ℕ)) (es : List Event) (t : Lent) → Ran emptied ps es t
    → ((d e : Event) → Among d es → Among e es → d.id ≡ e.id → d ≡ e)
    → (e : Event) → Among e es → key_of e ≡ keyless → is_ephemeral e.kind ≡ false → kept_under t (alone e.id) ≡ shown (one e)

-- Two runs from an emptied table in which the same events were offered, in whatever order and however often, hold the
-- same under every name, if no two different ones of the events have one id.
abbrev pub AnyOrder : Type 0
AnyOrder =
    (ps qs : List (List ℕ)) (es fs : List Event) (t u : Lent) → Ran emptied ps es t → Ran emptied qs fs u
    → ((e : Event) → Among e es → Among e fs) → ((e : Event) → Among e fs → Among e es)
    → ((d e : Event) → Among d es → Among e es → d.id ≡ e.id → d ≡ e) → (n : Name) → kept_under t n ≡ kept_under u n

-- At most 64 valid events, each of at most 1,024 bytes in its strict form, offered in that form one after the other to
-- an emptied table, are never refused: there is a run of all these offers.
abbrev pub NeverRefused : Type 0
NeverRefused = (es : List Event) → length es ≤ 64 → All Valid es → All (λ e. length (pack e) ≤ 1_024) es → (t : Lent) × Ran emptied (map pack es) es t
