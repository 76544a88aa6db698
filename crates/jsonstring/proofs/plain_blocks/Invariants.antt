-- `plain_blocks` passes blocks of plain bytes. The invariant: all bytes up to here are plain, and the blocks that are
-- left are those from here on.
-- A block is one use of `plain_block`.
use Rattle.std.proofs.Common.{◌≡◌, drop}
use Rattle.std.specs.Slice.Iter.{chunks_exact_rest, chunks_exact_size}
use Rattle.jsonstring.specs.inner.Plain.{PlainTo}
use Rattle.jsonstring.proofs.plain_blocks.Given as goal

abbrev pub invariant-loop-block : goal.invariant-loop-block
invariant-loop-block l = record {
  size : chunks_exact_size l.block-iterator ≡ 32;
  rest : chunks_exact_rest l.block-iterator ≡ drop l.n l.t;
  plain : PlainTo l.t 0 l.n;
}
