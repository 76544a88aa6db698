-- Demand 3 (rules 12.3), sentence by sentence: each formal line stands under the words that it is of. `proofs/Demand3`
-- proves them all. Assumes nothing.
use Rattle.std.specs.Prelude.{ℕ, ◌<◌, ◌≤◌, ◌≡◌, List, ◌++◌, length, take, drop}
use Rattle.scan.specs.Choice.{Answer, shown, refused, read}
use Rattle.scan.specs.Bytes.{IsBytes}
use Rattle.event.specs.Event.{Event}
use Rattle.jsontext.specs.Grammar as json
use Rattle.notepack.specs.Unpack.{unpack}
use Rattle.notepack.specs.Strict.{pack}
use Rattle.jsonevent.specs.Object.{read_json}
use Rattle.nson.specs.Nson.{Counts, nson}
use Rattle.nson.specs.Carries.{Carries}
use Rattle.nson.specs.Read.{byte_here, counts_at, read_nson}
use Rattle.jsonevent.specs.Entries.{json_reads, json_leaves}
use Rattle.buffer.specs.Entry.{writes, leaves}
use Rattle.nson.specs.Entries.{nson_reads, nson_leaves, carried, nson_writes, writer_leaves}
use Rattle.agreement.specs.Counted.{OtherField, TrueCounts, FieldHolds}

-- ---- the readers

-- No byte string is two events (12.3.1).
abbrev pub NeverTwo : Type 0
NeverTwo = (s : List ℕ) (a b : Event) → read_nson s ≡ shown a → read_json s ≡ shown b → a ≡ b

-- What the NSON reader accepts the plain JSON reader accepts, as the same event (12.3.2); what either is lent does not
-- matter here.
abbrev pub BothAccept : Type 0
BothAccept = (s : List ℕ) (e : Event) → read_nson s ≡ shown e → read_json s ≡ shown e

-- The nson field is nothing to the plain JSON reader (12.3.4): with another value there, with the field added or
-- without it, it shows the same event.
abbrev pub FieldIgnored : Type 0
FieldIgnored =
    (s t : List ℕ) (m k : json.Members) (e : Event) → json.JsonText (json.object m) s → json.JsonText (json.object k) t → OtherField m k → length t ≤ 65_536
    → read_json s ≡ shown e → read_json t ≡ shown e

-- Given room, both write the same bytes, which are the strict form of the event (12.3.3). d₁ and d₂ are what the two
-- were lent.
pub record SameShown (s d₁ d₂ : List ℕ) (n : ℕ) : Type 0 where
  pub event : Event
  pub nson_shows : read_nson s ≡ shown event
  pub json_shows : read_json s ≡ shown event
  -- the same length
  pub length_same : json_reads s d₂ ≡ shown n
  -- the same bytes, which are the event's
  pub bytes_same : take n (json_leaves s d₂) ≡ take n (nson_leaves s d₁)
  pub bytes_event : take n (nson_leaves s d₁) ≡ pack event

abbrev pub GivenRoom : Type 0
GivenRoom = (s d₁ d₂ : List ℕ) (n : ℕ) → nson_reads s d₁ ≡ shown n → n ≤ length d₂ → SameShown s d₁ d₂ n

-- Room is all that the NSON reader can lack: lent d it wrote n bytes, or refused with 11 and named n.
pub data OnlyRoom (s : List ℕ) (n : ℕ) : Type 0 where
  had : (d : List ℕ) → nson_reads s d ≡ shown n → OnlyRoom s n
  lacked : (d : List ℕ) → nson_reads s d ≡ refused 11 n → OnlyRoom s n

-- Lent fewer than n bytes, either reader answers 11 with n (12.3.5).
abbrev pub SameNeed : Type 0
SameNeed = (s : List ℕ) (n : ℕ) → OnlyRoom s n → (d : List ℕ) → length d < n → (nson_reads s d ≡ refused 11 n) × (json_reads s d ≡ refused 11 n)

-- With n bytes or more either reader writes n (12.3.5).
abbrev pub NeedEnough : Type 0
NeedEnough = (s : List ℕ) (n : ℕ) → OnlyRoom s n → (d : List ℕ) → n ≤ length d → (nson_reads s d ≡ shown n) × (json_reads s d ≡ shown n)

-- A buffer as long as the text has room (12.3.6).
abbrev pub TextEnough : Type 0
TextEnough = (s : List ℕ) (e : Event) → (read_json s ≡ shown e → length (pack e) ≤ length s) × (read_nson s ≡ shown e → length (pack e) ≤ length s)

-- ---- the counts

-- Whatever size and counts the nson field of an accepted text holds, they are true (12.3.8).
abbrev pub NoLie : Type 0
NoLie =
    (s : List ℕ) (e : Event) → read_nson s ≡ shown e → (m : json.Members) → json.JsonText (json.object m) s → (size : ℕ) (c : Counts) → FieldHolds m size c
    → TrueCounts m size c

-- And it does hold some (12.3.9): an accepted string is a JSON text, of one object and of no other value, and its nson
-- field holds the very size and counts that the reader follows.
pub record Followed (s : List ℕ) : Type 0 where
  pub members : json.Members
  pub text : json.JsonText (json.object members) s
  pub only : (v : json.Json) → json.JsonText v s → v ≡ json.object members
  pub counts : Counts
  pub behind : ℕ
  pub read_there : counts_at s ≡ read counts behind
  pub held : FieldHolds members (byte_here s 318) counts

abbrev pub CountsFollowed : Type 0
CountsFollowed = (s : List ℕ) (e : Event) → read_nson s ≡ shown e → Followed s

-- ---- the writer

-- A packed event that is accepted, that NSON can carry, and that has room in d ..
-- (a is what the reader of packed events tells.)
pub record Writable (a : Answer Event) (d : List ℕ) : Type 0 where
  pub event : Event
  pub accepted : a ≡ shown event
  pub carries : Carries event
  pub room : length (nson event) ≤ length d

-- .. is written (12.3.10): its length is told, its text stands at the start of d, and behind it d is as it was.
pub record Writes (a : Answer Event) (d : List ℕ) (e : Event) : Type 0 where
  pub written : writes nson (carried a) d ≡ shown (length (nson e))
  pub left : leaves nson (carried a) d ≡ nson e ++ drop (length (nson e)) d

abbrev pub WriterWrites : Type 0
WriterWrites = (s d : List ℕ) (w : Writable (unpack s) d) → Writes (unpack s) d w.event

-- Any other is refused, and d stays as it was (12.3.11).
pub data Refused : Answer ℕ → Type 0 where
  is_refused : {n p : ℕ} → Refused (refused n p)

abbrev pub OrNothing : Type 0
OrNothing = (s d : List ℕ) → (Writable (unpack s) d → ⊥) → Refused (nson_writes s d) × (writer_leaves s d ≡ d)

-- The refusal says why (12.3.11): it is that of the reader of packed events; or 17 at 0, where NSON can't carry the
-- event; or 11 with the length needed.
abbrev pub WriterRefusals : Type 0
WriterRefusals =
    (s d : List ℕ)
    → ((n p : ℕ) → unpack s ≡ refused n p → nson_writes s d ≡ refused n p)
    × ((e : Event) → unpack s ≡ shown e → (Carries e → ⊥) → nson_writes s d ≡ refused 17 0)
    × ((e : Event) → unpack s ≡ shown e → Carries e → length d < length (nson e) → nson_writes s d ≡ refused 11 (length (nson e)))

-- Both readers show again what was written (12.3.12): t is what was written, d₂ the buffer that a reader is lent.
-- (`IsBytes s`: the packed input is bytes.)
pub record ShowsAgain (t d₂ : List ℕ) (e : Event) : Type 0 where
  pub nson_shows : read_nson t ≡ shown e
  pub json_shows : read_json t ≡ shown e
  pub nson_accepts : length (pack e) ≤ length d₂ → nson_reads t d₂ ≡ shown (length (pack e))
  pub json_accepts : length (pack e) ≤ length d₂ → json_reads t d₂ ≡ shown (length (pack e))
  pub nson_bytes : length (pack e) ≤ length d₂ → take (length (pack e)) (nson_leaves t d₂) ≡ pack e
  pub json_bytes : length (pack e) ≤ length d₂ → take (length (pack e)) (json_leaves t d₂) ≡ pack e

abbrev pub ReadBack : Type 0
ReadBack =
    (s d d₂ : List ℕ) (e : Event) (n : ℕ) → IsBytes s → unpack s ≡ shown e → nson_writes s d ≡ shown n → ShowsAgain (take n (writer_leaves s d)) d₂ e
