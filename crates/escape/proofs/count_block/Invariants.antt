-- `count_block` counts the bytes of a block that become two in NSON, and those that it can't carry. The invariant: each
-- count and what is left make the whole.
-- A byte adds 0 or 1 to each, so a sum is at most the index and fits a byte.
use Rattle.std.proofs.Common.{◌≡◌, ◌+◌, ◌≤◌, length, drop}
use Rattle.escape.specs.Escape.{nson_byte, escaped}
use Rattle.escape.specs.inner.Controls.{controls}
use Rattle.escape.proofs.count_block.Given as goal

abbrev pub invariant-loop-b : goal.invariant-loop-b
invariant-loop-b l = record {
  escapes_fit : l.escapes ≤ l.b-index;
  controls_fit : l.controls ≤ l.b-index;
  escapes : l.escapes + l.b-index + length (escaped nson_byte (drop l.b-index l.block)) ≡ length (escaped nson_byte l.block);
  controls : l.controls + controls (drop l.b-index l.block) ≡ controls l.block;
}
