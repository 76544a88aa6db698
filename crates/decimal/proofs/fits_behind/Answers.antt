-- `fits_behind` compares as `leb` does, with no number above max on the way.
-- By `behind_fits`: value * 10 + d ≤ max exactly if value ≤ (max - d) / 10, where d ≤ max.
use borrow.Author.Tests.{lt-leb}
use Rattle.decimal.proofs.Turn.{behind_fits, behind_over}
use Rattle.decimal.proofs.fits_behind.Goals as goal

pub returns-then-d-max : goal.returns-then-d-max
returns-then-d-max c = behind_fits _ _ _ c.if-d-max.true

pub returns-else-d-max : goal.returns-else-d-max
returns-else-d-max c = rw (lt-leb c.args.d c.args.max c.if-d-max.false) (behind_over c.args.value c.args.d c.args.max c.if-d-max.false)
