-- Both readers over one text s, the NSON reader lent d₁ and the plain JSON reader d₂: how what they show compares, the
-- length written, and what is left in each buffer. Where the plain JSON reader refuses, its refusal is the answer.
-- Assumes nothing.
use Rattle.std.specs.Prelude.{ℕ, List, length, leb}
use Rattle.scan.specs.Choice.{pick, Answer, shown, refused}
use Rattle.buffer.specs.Entry.{filled}
use Rattle.scan.specs.Compare.{same_bytes}
use Rattle.event.specs.Event.{Event}
use Rattle.notepack.specs.Strict.{pack}
use Rattle.jsonevent.specs.Object.{read_json}
use Rattle.nson.specs.Read.{read_nson}

-- 1: the plain JSON reader shows the event and the NSON reader does not (or another, which rule 12.3.1 rules out); 2:
-- both show it. And the length of the event's strict form.
pub record Compared : Type 0 where
  pub which : ℕ
  pub len : ℕ

-- 2 exactly if the strict forms of the two events are the same bytes
abbrev pub compared : Event → Event → Compared
compared a e = record { which = pick (same_bytes (pack a) (pack e)) 2 1; len = length (pack e) }

-- the strict form of e has room in d, or 11 with its length
abbrev pub room_for : Event → List ℕ → Answer Compared → Answer Compared
room_for e d a = pick (leb (length (pack e)) (length d)) a (refused 11 (length (pack e)))

-- by NSON's reading and JSON's
abbrev pub both_of : Answer Event → Answer Event → List ℕ → List ℕ → Answer Compared
both_of (shown a) (shown e) d₁ d₂ = room_for e d₂ (room_for a d₁ (shown (compared a e)))
both_of (refused m q) (shown e) d₁ d₂ = room_for e d₂ (shown (record { which = 1; len = length (pack e) }))
both_of (shown a) (refused n p) d₁ d₂ = refused n p
both_of (refused m q) (refused n p) d₁ d₂ = refused n p

-- what is left where the NSON reader writes: what it shows, unless the answer is a refusal
abbrev pub first_of : Answer Event → Answer Event → List ℕ → List ℕ → List ℕ
first_of (shown a) (shown e) d₁ d₂ = pick (leb (length (pack e)) (length d₂)) (filled (pack a) d₁) d₁
first_of (refused m q) (shown e) d₁ d₂ = d₁
first_of (shown a) (refused n p) d₁ d₂ = d₁
first_of (refused m q) (refused n p) d₁ d₂ = d₁

-- what is left where the plain JSON reader writes: what it shows, unless the answer is a refusal
abbrev pub second_of : Answer Event → Answer Event → List ℕ → List ℕ → List ℕ
second_of (shown a) (shown e) d₁ d₂ = pick (leb (length (pack a)) (length d₁)) (filled (pack e) d₂) d₂
second_of (refused m q) (shown e) d₁ d₂ = filled (pack e) d₂
second_of (shown a) (refused n p) d₁ d₂ = d₂
second_of (refused m q) (refused n p) d₁ d₂ = d₂

abbrev pub both : List ℕ → List ℕ → List ℕ → Answer Compared
both s d₁ d₂ = both_of (read_nson s) (read_json s) d₁ d₂

abbrev pub both_first : List ℕ → List ℕ → List ℕ → List ℕ
both_first s d₁ d₂ = first_of (read_nson s) (read_json s) d₁ d₂

abbrev pub both_second : List ℕ → List ℕ → List ℕ → List ℕ
both_second s d₁ d₂ = second_of (read_nson s) (read_json s) d₁ d₂
