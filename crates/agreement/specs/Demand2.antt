-- Demand 2 (rules 12.2), sentence by sentence: each formal line stands under the words that it is of. `proofs/Demand2`
-- proves them all. Assumes nothing.
use Rattle.std.specs.Prelude.{ℕ, ◌≤◌, ◌≡◌, true, List, ◌++◌, ◌↔◌, length, drop}
use Rattle.scan.specs.Choice.{shown}
use Rattle.scan.specs.Bytes.{IsBytes}
use Rattle.buffer.specs.Entry.{writes, leaves}
use Rattle.event.specs.Event.{Event, Valid}
use Rattle.jsontext.specs.Grammar as json
use Rattle.notepack.specs.Layout.{Lays}
use Rattle.notepack.specs.Strict.{pack}
use Rattle.notepack.specs.Unpack.{unpack}
use Rattle.notepack.specs.Seen.{Seen}
use Rattle.strict.specs.Strict.{strict}
use Rattle.canonical.specs.Canonical.{canonical}
use Rattle.jsonevent.specs.Meaning.{IsEvent}
use Rattle.jsonevent.specs.Object.{read_json}
use Rattle.agreement.specs.Stored.{Stored, packed_with, stored_strict}

pub record Demand2 : Type 0 where
  -- ---- notepack. (`IsBytes s`: the input is bytes.)

  -- Reading shows the event that is laid out there, valid, within 65,536 bytes, and no other.
  pub reads_layout : (s : List ℕ) → IsBytes s → (e : Event) → (unpack s ≡ shown e) ↔ (Lays e s × Valid e × (length s ≤ 65_536))
  -- One byte string lays out at most one valid event.
  pub one_laid_out : (s : List ℕ) (d e : Event) → Lays d s → Lays e s → Valid d → Valid e → d ≡ e
  -- What is asked of the bytes is what that event has: its numbers, its content, the texts of its tags.
  pub views_event : (s : List ℕ) → IsBytes s → (e : Event) → unpack s ≡ shown e → Seen s e
  -- Writing gives the one strict form: given room its length, its bytes from the start of d, and behind them d as it
  -- was.
  pub writes_strict : (s d : List ℕ) (e : Event) → unpack s ≡ shown e → length (pack e) ≤ length d
      → (writes pack (unpack s) d ≡ shown (length (pack e))) × (leaves pack (unpack s) d ≡ pack e ++ drop (length (pack e)) d)
  -- The strict form is one for equal events, and another for another event.
  pub one_strict : (s t : List ℕ) (d e : Event) → IsBytes s → IsBytes t → unpack s ≡ shown d → unpack t ≡ shown e → (d ≡ e) ↔ (pack d ≡ pack e)
  -- It reads as the same event, for every input that is accepted.
  pub reads_again : (s : List ℕ) → IsBytes s → (e : Event) → unpack s ≡ shown e → unpack (pack e) ≡ shown e
  -- Given bytes are strict exactly if they are the strict form of what they show.
  pub strict_question : (s : List ℕ) → (strict s ≡ shown true) ↔ ((e : Event) × (unpack s ≡ shown e) × (s ≡ pack e))
  -- Two packed forms of one event differ in how its elements are stored, and in nothing else.
  pub elements_decide : (s : List ℕ) (e : Event) → Lays e s → (ls : List (List (List ℕ))) × Stored e.tags ls × (s ≡ packed_with e ls)
  -- They are strict exactly if each element is stored as the strict form has it.
  pub strict_elements : (s : List ℕ) (e : Event) (ls : List (List (List ℕ))) → unpack s ≡ shown e → Stored e.tags ls → s ≡ packed_with e ls
      → (strict s ≡ shown true) ↔ (ls ≡ stored_strict e.tags)
  -- ---- the canonical text. `canonical` is NIP-01's; `proofs/Demand2.canonical_text` has it byte by byte.

  -- It is what is written, given room.
  pub writes_canonical : (s d : List ℕ) (e : Event) → unpack s ≡ shown e → length (canonical e) ≤ length d
      → (writes canonical (unpack s) d ≡ shown (length (canonical e))) × (leaves canonical (unpack s) d ≡ canonical e ++ drop (length (canonical e)) d)
  -- ---- plain JSON

  -- An event is shown exactly if the input is a JSON text of at most 65,536 bytes, by RFC 8259's grammar, whose tree is
  -- that event.
  pub reads_json : (s : List ℕ) (e : Event) → (read_json s ≡ shown e) ↔ ((v : json.Json) × json.JsonText v s × IsEvent v e × (length s ≤ 65_536))
  -- A text has one tree, and a tree is at most one event.
  pub one_tree : (s : List ℕ) (v w : json.Json) → json.JsonText v s → json.JsonText w s → v ≡ w
  pub one_meaning : (v : json.Json) (d e : Event) → IsEvent v d → IsEvent v e → d ≡ e
