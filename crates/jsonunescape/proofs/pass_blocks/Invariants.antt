-- `pass_blocks` passes blocks without a stop. The invariant: the run from the start ends where the run from here ends,
-- and the blocks that are left are those from here on.
-- A block is one use of `run_block`.
use Rattle.std.proofs.Common.{◌≡◌, ◌≤◌, length, drop}
use Rattle.std.specs.Slice.Iter.{chunks_exact_rest, chunks_exact_size}
use Rattle.jsonunescape.specs.inner.Run.{backslash_at}
use Rattle.jsonunescape.proofs.pass_blocks.Given as goal

abbrev pub invariant-loop-block : goal.invariant-loop-block
invariant-loop-block l = record {
  size : chunks_exact_size l.block-iterator ≡ 32;
  rest : chunks_exact_rest l.block-iterator ≡ drop l.i l.t;
  onward : l.at ≤ l.i;
  inside : l.i ≤ length l.t;
  run : backslash_at l.t l.at ≡ backslash_at l.t l.i;
}
