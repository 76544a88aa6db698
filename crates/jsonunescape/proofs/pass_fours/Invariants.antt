-- `pass_fours` passes four bytes a turn. The invariant: the run from the start ends where the run from here ends, and
-- the chunks that are left are those from here on.
-- A turn is one use of `run_four`.
use Rattle.std.proofs.Common.{◌≡◌, ◌≤◌, length, drop}
use Rattle.std.specs.Slice.Iter.{chunks_exact_rest, chunks_exact_size}
use Rattle.jsonunescape.specs.inner.Run.{backslash_at}
use Rattle.jsonunescape.proofs.pass_fours.Given as goal

abbrev pub invariant-loop-four : goal.invariant-loop-four
invariant-loop-four l = record {
  size : chunks_exact_size l.four-iterator ≡ 4;
  rest : chunks_exact_rest l.four-iterator ≡ drop l.i l.t;
  onward : l.at ≤ l.i;
  inside : l.i ≤ length l.t;
  run : backslash_at l.t l.at ≡ backslash_at l.t l.i;
}
