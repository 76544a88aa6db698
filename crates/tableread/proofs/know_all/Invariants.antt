-- `know_all` says what all slots hold. The invariant: what is stored so far is what the definition begins with.
-- A turn stores one more, by a law of `Turns`.
use Rattle.std.proofs.Common.{◌≡◌, length, take}
use Rattle.tableread.specs.inner.Known.{known_from}
use Rattle.tableread.proofs.know_all.Given as goal

abbrev pub invariant-loop-i : goal.invariant-loop-i
invariant-loop-i l = (length l.ks ≡ 64) × (take l.i l.ks ≡ take l.i (known_from l.cells 0 l.fn.t))
