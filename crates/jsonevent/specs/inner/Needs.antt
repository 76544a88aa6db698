-- The length that an input needs, whatever is lent. Assumes nothing.
use Rattle.std.specs.Prelude.{ℕ, List, length}
use Rattle.scan.specs.Choice.{Answer, shown, and_then}
use Rattle.notepack.specs.Strict.{pack}
use Rattle.jsonevent.specs.Object.{read_json}

-- the length that it needs, whatever is lent
abbrev pub json_needs : List ℕ → Answer ℕ
json_needs s = and_then (read_json s) λ e. shown (length (pack e))
