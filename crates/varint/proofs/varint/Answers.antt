-- `varint` tells a varint of one byte at once; any other is its callee's answer.
-- By `one_byte`, under the two tests.
use Rattle.varint.proofs.Turn.{one_byte}
use Rattle.varint.proofs.varint.Goals as goal

pub returns-then-s-at-lt128 : goal.returns-then-s-at-lt128
returns-then-s-at-lt128 c = one_byte _ _ c.if-at-s.true c.if-s-at-lt128.true
