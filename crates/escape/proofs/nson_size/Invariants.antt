-- `nson_size` adds block by block. The invariant: each sum and what is left make the whole.
-- Each turn is `grown` and `controls_block`; a text in NSON is at most twice as long, so no sum wraps.
use Rattle.std.proofs.Common.{◌≡◌, ◌+◌, ◌≤◌, length}
use Rattle.std.specs.Slice.Iter.{chunks_rest, chunks_size}
use Rattle.escape.specs.Escape.{nson_byte, escaped}
use Rattle.escape.specs.inner.Controls.{controls}
use Rattle.escape.proofs.nson_size.Given as goal

abbrev pub invariant-loop-block : goal.invariant-loop-block
invariant-loop-block l = record {
  size : chunks_size l.block-iterator ≡ 128;
  len : l.len + length (escaped nson_byte (chunks_rest l.block-iterator)) ≡ length (escaped nson_byte l.s) + length (chunks_rest l.block-iterator);
  controls : l.controls + controls (chunks_rest l.block-iterator) ≡ controls l.s;
  controls_fit : l.controls + length (chunks_rest l.block-iterator) ≤ length l.s;
}
