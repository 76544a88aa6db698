-- A run, the bytes up to the next backslash. Assumes nothing.
use Rattle.std.specs.Prelude.{ℕ, ◌+◌, Bool, true, false, List, eqb}
use Rattle.scan.specs.Choice.{pick}
use Rattle.scan.specs.Place.{run_at}
use Rattle.scan.specs.inner.Blocks.{is_one, control_count}

-- a byte that is no backslash
unfoldable pub no_backslash : ℕ → Bool
no_backslash b = pick (eqb b 0x5C) false true

-- the place of the next backslash from a place on, or the end
unfoldable pub backslash_at : List ℕ → ℕ → ℕ
backslash_at s at = run_at no_backslash s at

unfoldable pub is_slash : ℕ → ℕ
is_slash b = is_one b 0x5C

-- 0 for a byte that is neither a control byte nor a quote nor a backslash
unfoldable pub stop_of : ℕ → ℕ
stop_of b = control_count b + is_one b 0x22 + is_slash b
