-- `alphabet_end` passes blocks in which no byte counts, and looks byte by byte where one does.
-- The invariant: the blocks that are left are the text from here on, and the run from the start ends where the run from
-- here does.
use Rattle.std.proofs.Common.{◌≤◌, ◌≡◌, length, drop}
use Rattle.std.specs.Slice.Iter.{chunks_rest, chunks_size}
use Rattle.scan.specs.Place.{run_at}
use Rattle.base64text.specs.Base64.{in_alphabet}
use Rattle.base64text.proofs.alphabet_end.Given as goal

abbrev pub invariant-loop-block : goal.invariant-loop-block
invariant-loop-block l =
    record {
      size : chunks_size l.block-iterator ≡ 128;
      within : l.i ≤ length l.t;
      left : chunks_rest l.block-iterator ≡ drop l.i l.t;
      run : run_at in_alphabet l.t l.at ≡ run_at in_alphabet l.t l.i;
    }
