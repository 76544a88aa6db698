-- The NSON reader and the NSON writer as entries: s is the input, d the lent buffer. An answer is the length written,
-- or a refusal with its number and place. Demand 3 and the contracts of the code cite these names and no others.
-- Assumes nothing.
use Rattle.std.specs.Prelude.{ℕ, List}
use Rattle.scan.specs.Choice.{pick, Answer, shown, refused, and_then}
use Rattle.buffer.specs.Entry.{writes, leaves}
use Rattle.event.specs.Event.{Event}
use Rattle.notepack.specs.Unpack.{unpack}
use Rattle.notepack.specs.Strict.{pack}
use Rattle.nson.specs.Nson.{nson}
use Rattle.nson.specs.inner.Decision.{carries}
use Rattle.nson.specs.Read.{read_nson}

-- the NSON reader: its answer, and what it leaves in d
abbrev pub nson_reads : List ℕ → List ℕ → Answer ℕ
nson_reads s d = writes pack (read_nson s) d

abbrev pub nson_leaves : List ℕ → List ℕ → List ℕ
nson_leaves s d = leaves pack (read_nson s) d

-- an event that NSON can carry; any other is refused with 17 at 0
abbrev pub carried : Answer Event → Answer Event
carried a = and_then a λ e. pick (carries e) (shown e) (refused 17 0)

-- the NSON writer: the event that was unpacked, if NSON can carry it
abbrev pub nson_writes : List ℕ → List ℕ → Answer ℕ
nson_writes s d = writes nson (carried (unpack s)) d

abbrev pub writer_leaves : List ℕ → List ℕ → List ℕ
writer_leaves s d = leaves nson (carried (unpack s)) d
