-- `number_of` is the library's number of eight bytes: of the first eight, or of all with zeros behind them.
-- By `number_le` and `number_short`.
use Rattle.std.proofs.Common.{◌∙◌, ap, arith}
use lib.Seq.{take-take}
use Rattle.littleendian.specs.LittleEndian.{number_of}
use Rattle.littleendian.proofs.Laws.{number_le, number_short}
use Rattle.littleendian.proofs.number_of.Goals as goal

pub returns-in-Some : goal.returns-in-Some
returns-in-Some c =
    let s = c.args.s.now in
    c.from_le_bytes.ensures ∙ number_le c.in-Some.eight.now ∙ rw c.in-Some.ensures.cases.same (ap number_of (take-take 8 8 s (omega arith)))

pub returns-in-None : goal.returns-in-None
returns-in-None c = c.from_le_bytes-in-None.ensures ∙ number_short c.in-None.ensures.cases c.put_bytes.ensures
