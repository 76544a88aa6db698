-- What the moves promise together (rules 17), sentence by sentence: each formal line stands under the words that it is
-- of. `proofs/ThereAndBack` and `proofs/Example` prove them. Assumes nothing.
use Rattle.std.specs.Prelude.{ℕ, suc, ◌-◌, ◌≤◌, ◌≡◌, true, false, List, length, take}
use Rattle.scan.specs.Choice.{shown}
use Rattle.event.specs.Event.{Event}
use Rattle.notepack.specs.Unpack.{unpack}
use Rattle.strict.specs.Strict.{strict}
use Rattle.versioned.specs.Versioned.{behind, given}
use Rattle.versioned.specs.Moves.{with_version, without_version, versions, version_leaves, bares, bare_leaves}

-- s moved to the versioned form in d, and from there back in d₂
pub record Returns (s d d₂ : List ℕ) : Type 0 where
  pub there : versions s d ≡ shown (suc (length s))
  pub form : take (suc (length s)) (version_leaves s d) ≡ with_version s
  pub back : bares (take (suc (length s)) (version_leaves s d)) d₂ ≡ shown (length s)
  pub same : take (length s) (bare_leaves (take (suc (length s)) (version_leaves s d)) d₂) ≡ s

-- There and back returns the same bytes for everything the reader accepts of at most 65,535 bytes, given room.
abbrev pub ThereAndBack : Type 0
ThereAndBack =
    (s : List ℕ) (e : Event) → unpack s ≡ shown e → length s ≤ 65_535 → (d d₂ : List ℕ) → suc (length s) ≤ length d → length s ≤ length d₂ → Returns s d d₂

-- s moved to the bare form in d, and from there back in d₂
pub record ReturnsVersioned (s d d₂ : List ℕ) : Type 0 where
  pub there : bares s d ≡ shown (length s - 1)
  pub form : take (length s - 1) (bare_leaves s d) ≡ without_version s
  pub back : versions (take (length s - 1) (bare_leaves s d)) d₂ ≡ shown (length s)
  pub same : take (length s) (version_leaves (take (length s - 1) (bare_leaves s d)) d₂) ≡ s

-- And so does back and there, for every versioned form that is accepted.
abbrev pub BackAndThere : Type 0
BackAndThere =
    (s : List ℕ) (e : Event) → given false unpack s ≡ shown e → (d d₂ : List ℕ) → length s ≤ suc (length d) → length s ≤ length d₂ → ReturnsVersioned s d d₂

-- What was moved to the versioned form is accepted there, and shows the same event: no move makes what is too long to
-- be read.
abbrev pub MovedIsRead : Type 0
MovedIsRead = (s d : List ℕ) (n : ℕ) → versions s d ≡ shown n → (e : Event) × (unpack s ≡ shown e) × (given false unpack (with_version s) ≡ shown e)

-- The moves make nothing strict, and change no event: what is told of the moved bytes is what is told of the bytes, one
-- place further on.
abbrev pub SameEvent : Type 0
SameEvent = (s : List ℕ) → length s ≤ 65_535 → given false unpack (with_version s) ≡ behind 1 (unpack s)

abbrev pub SameStrict : Type 0
SameStrict = (s : List ℕ) → length s ≤ 65_535 → given false strict (with_version s) ≡ behind 1 (strict s)

-- A wrong word can't be seen: there are bytes that read well as one event where they are said to be versioned, and as
-- another where they are said to be bare.
pub record WrongWord : Type 0 where
  pub bytes : List ℕ
  pub versioned : Event
  pub bare : Event
  pub read_versioned : given false unpack bytes ≡ shown versioned
  pub read_bare : given true unpack bytes ≡ shown bare
  pub differ : versioned ≡ bare → ⊥
