-- The meaning of what `finish` tells. Assumes nothing.
use Rattle.std.specs.Prelude.{ℕ, List, Option, None, Some}
use Rattle.scan.specs.Choice.{Answer, shown, refused}
use Rattle.sha256.specs.declared.Words.{Words}
use Rattle.sha256.specs.Message.{digest_bytes}

abbrev pub finish_told : Option Words → Answer (List ℕ)
finish_told (Some v) = shown (digest_bytes v)
finish_told None = refused 35 0
