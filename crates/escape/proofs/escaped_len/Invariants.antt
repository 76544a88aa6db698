-- `escaped_len` adds block by block. The invariant: the sum and what the bytes that are left grow by make the whole.
-- Each turn is `grown`; the whole is at most twice as long as the text, so no sum wraps.
use Rattle.std.proofs.Common.{◌≡◌, ◌+◌, length}
use Rattle.std.specs.Slice.Iter.{chunks_rest, chunks_size}
use Rattle.escape.specs.Escape.{escaped}
use Rattle.escape.specs.inner.Which.{byte_of}
use Rattle.escape.proofs.escaped_len.Given as goal

abbrev pub invariant-loop-block : goal.invariant-loop-block
invariant-loop-block l = record {
  size : chunks_size l.block-iterator ≡ 128;
  sum : l.n + length (escaped (byte_of l.k) (chunks_rest l.block-iterator)) ≡ length (escaped (byte_of l.k) l.s) + length (chunks_rest l.block-iterator);
}
