-- `whole_blocks` hashes block after block. The invariant: the blocks that are left, from the value so far, give the
-- result. Each turn is `blocks_turn`, the end `blocks_done`.
use Rattle.std.proofs.Common.{◌≡◌}
use Rattle.std.specs.Slice.Iter.{chunks_exact_rest, chunks_exact_size}
use Rattle.sha256.specs.Message.{hashed}
use Rattle.sha256.proofs.whole_blocks.Given as goal

abbrev pub invariant-loop-block : goal.invariant-loop-block
invariant-loop-block l = record {
  size : chunks_exact_size l.block-iterator ≡ 64;
  hash : hashed l.h (chunks_exact_rest l.block-iterator) ≡ hashed l.initial.h l.s;
}
