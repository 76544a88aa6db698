-- The writer's sentences of demand 3 (rules 12.3.10 to 12.3.12) for a packed input of either form (rules 17), as the
-- entry for C has it: b is the caller's word whether the input is bare. Each formal line stands under the words that it
-- is of. `proofs/Given` proves them all. Assumes nothing.
use Rattle.std.specs.Prelude.{ℕ, ◌<◌, ◌≡◌, Bool, List, length, take}
use Rattle.scan.specs.Choice.{Answer, shown, refused}
use Rattle.scan.specs.Bytes.{IsBytes}
use Rattle.buffer.specs.Entry.{writes, leaves}
use Rattle.event.specs.Event.{Event}
use Rattle.notepack.specs.Unpack.{unpack}
use Rattle.nson.specs.Nson.{nson}
use Rattle.nson.specs.Carries.{Carries}
use Rattle.nson.specs.Entries.{carried}
use Rattle.versioned.specs.Versioned.{given}
use Rattle.agreement.specs.Demand3.{Writable, Writes, Refused, ShowsAgain}

-- the NSON writer: its answer, and what it leaves in d
abbrev pub nson_writes_given : Bool → List ℕ → List ℕ → Answer ℕ
nson_writes_given b s d = writes nson (carried (given b unpack s)) d

abbrev pub writer_leaves_given : Bool → List ℕ → List ℕ → List ℕ
writer_leaves_given b s d = leaves nson (carried (given b unpack s)) d

pub record WriterGiven : Type 0 where
  -- An accepted event that NSON can carry and that has room is written.
  pub writer_writes : (b : Bool) (s d : List ℕ) (w : Writable (given b unpack s) d) → Writes (given b unpack s) d w.event
  -- Any other is refused, and d stays as it was.
  pub or_nothing : (b : Bool) (s d : List ℕ) → (Writable (given b unpack s) d → ⊥) → Refused (nson_writes_given b s d) × (writer_leaves_given b s d ≡ d)
  -- The refusal is that of the reader of packed events; or 17 at 0; or 11 with the length needed.
  pub readers_refusal : (b : Bool) (s d : List ℕ) (n p : ℕ) → given b unpack s ≡ refused n p → nson_writes_given b s d ≡ refused n p
  pub not_carried : (b : Bool) (s d : List ℕ) (e : Event) → given b unpack s ≡ shown e → (Carries e → ⊥) → nson_writes_given b s d ≡ refused 17 0
  pub no_room : (b : Bool) (s d : List ℕ) (e : Event) → given b unpack s ≡ shown e → Carries e → length d < length (nson e)
      → nson_writes_given b s d ≡ refused 11 (length (nson e))
  -- Both readers show again what was written.
  pub read_back : (b : Bool) (s d d₂ : List ℕ) (e : Event) (n : ℕ) → IsBytes s → given b unpack s ≡ shown e → nson_writes_given b s d ≡ shown n
      → ShowsAgain (take n (writer_leaves_given b s d)) d₂ e
