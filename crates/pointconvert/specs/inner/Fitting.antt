-- A length that an input may have: up to 65,536 bytes. Assumes nothing.
use Rattle.std.specs.Prelude.{ℕ, Option, Some, None, leb}
use Rattle.scan.specs.Choice.{pick}

-- the length, or none where it passes the limit
abbrev pub fitting : ℕ → Option ℕ
fitting n = pick (leb n 65_536) (Some n) None
