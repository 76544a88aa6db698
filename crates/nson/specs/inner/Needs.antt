-- The length that an input needs, whatever is lent. Assumes nothing.
use Rattle.std.specs.Prelude.{ℕ, List, length}
use Rattle.scan.specs.Choice.{Answer, shown, and_then}
use Rattle.notepack.specs.Strict.{pack}
use Rattle.nson.specs.Read.{read_nson}

-- the length that it needs, whatever is lent
abbrev pub nson_needs : List ℕ → Answer ℕ
nson_needs s = and_then (read_nson s) λ e. shown (length (pack e))
