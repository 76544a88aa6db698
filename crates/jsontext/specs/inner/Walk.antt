-- An array or an object as it is read over, with the depth that is left. Assumes nothing.
use Rattle.std.specs.Prelude.{ℕ, zero, suc, List}
use Rattle.scan.specs.Choice.{refused}
use Rattle.jsontext.specs.Token.{Skipped}
use Rattle.jsontext.specs.Value.{skip_walk_by, value_at}

unfoldable pub skip_walk : (depth close : ℕ) → List ℕ → ℕ → Skipped
skip_walk zero close s at = refused 18 at
skip_walk (suc depth) close s at = skip_walk_by close (value_at depth s) s at
