-- `Half::put_digit` takes a digit more.
-- With the half that is read it is a byte, by `digit_byte`; by itself it is the half, by `digit_half`.
use Rattle.std.proofs.Common.{◌<◌}
use Rattle.buffer.proofs.Laws.{nothing}
use Rattle.jsonunescape.proofs.Parts.{digit_byte, digit_half}
use Rattle.jsonunescape.proofs.Half.put_digit.Goals.{in-Some, in-None}
use Rattle.jsonunescape.proofs.Half.put_digit.Goals as goal

pub returns-clause-wrote : goal.returns-clause-wrote
returns-clause-wrote c =
    elim c.match-self.branch [
      | in-Some w ↦
          let k : w.in-Some.h < 16 = c.args.self.value_bound _ w.in-Some.is in
          rw (w.out-is, w.result-is, w.in-Some.is, (digit_byte w.in-Some.h c.args.b k).0) (rw c.value_of-v.ensures at w.put_byte.ensures)
      | in-None w ↦ rw (w.out-is, w.result-is, w.in-None.is, (digit_half c.args.b).0) nothing
    ]

pub returns-clause-value_value : goal.returns-clause-value_value
returns-clause-value_value c =
    elim c.match-self.branch [
      | in-Some w ↦
          let k : w.in-Some.h < 16 = c.args.self.value_bound _ w.in-Some.is in
          rw (w.result-is, w.in-Some.is) (digit_byte w.in-Some.h c.args.b k).1
      | in-None w ↦ rw (w.result-is, w.in-None.is, c.value_of-v.ensures) (digit_half c.args.b).1
    ]
