-- The plain JSON reader as an entry: s is the input, d the lent buffer. An answer is the length written, or a refusal
-- with its number and place. Demand 3 and the contracts of the code cite these names and no others. Assumes nothing.
use Rattle.std.specs.Prelude.{ℕ, List}
use Rattle.scan.specs.Choice.{Answer}
use Rattle.buffer.specs.Entry.{writes, leaves}
use Rattle.notepack.specs.Strict.{pack}
use Rattle.jsonevent.specs.Object.{read_json}

-- its answer, and what it leaves in d
abbrev pub json_reads : List ℕ → List ℕ → Answer ℕ
json_reads s d = writes pack (read_json s) d

abbrev pub json_leaves : List ℕ → List ℕ → List ℕ
json_leaves s d = leaves pack (read_json s) d
