-- `ends_whole` looks at what the length leaves after division by 4, and then at the last character.
-- Each outcome is the law of that remainder.
use Rattle.std.proofs.Common.{arith}
use Rattle.base64text.proofs.Texts.{ends_none, ends_lone, ends_two, ends_three}
use Rattle.base64text.proofs.ends_whole.Goals as goal

pub returns-in-0 : goal.returns-in-0
returns-in-0 c = ends_none _ c.in-0.is

pub returns-in-1 : goal.returns-in-1
returns-in-1 c = ends_lone _ c.in-1.is

pub returns-in-2 : goal.returns-in-2
returns-in-2 c = rw c.six_bits.ensures (ends_two _ c.in-2.is)

pub returns-in_default : goal.returns-in_default
returns-in_default c = rw c.six_bits-in_default.ensures (ends_three c.args.t.now (omega arith))
