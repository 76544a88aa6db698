-- `put_pairs` stores a byte for each two values. The invariant: what is left to write are the bytes of v from place 2 *
-- i on.
-- A turn is `pairs_two` and one byte stored; a last value alone is no byte, by `pairs_ended`.
use Rattle.std.proofs.Common.{◌+◌, ◌*◌, drop}
use Rattle.buffer.proofs.Laws.{Left}
use Rattle.hexdigits.specs.inner.Block.{pairs_of}
use Rattle.hexdigits.proofs.put_pairs.Given as goal

abbrev pub invariant-loop-i : goal.invariant-loop-i
invariant-loop-i l = Left l.initial.out l.at (pairs_of l.v) l.out (l.at + l.i) (pairs_of (drop (2 * l.i) l.v))
