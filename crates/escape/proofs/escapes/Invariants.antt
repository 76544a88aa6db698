-- `escapes` counts the bytes of a block that become two. The invariant: the count, the bytes passed and what is left
-- escaped make the whole.
-- A byte adds 0 or 1, so the sum is at most the index and fits a byte.
use Rattle.std.proofs.Common.{◌≡◌, ◌+◌, ◌≤◌, length, drop}
use Rattle.escape.specs.Escape.{escaped}
use Rattle.escape.specs.inner.Which.{byte_of}
use Rattle.escape.proofs.escapes.Given as goal

abbrev pub invariant-loop-b : goal.invariant-loop-b
invariant-loop-b l = (l.n ≤ l.b-index) × (l.n + l.b-index + length (escaped (byte_of l.k) (drop l.b-index l.block)) ≡ length (escaped (byte_of l.k) l.block))
