-- `decode_group` writes the bytes of the first four characters one by one, and ends where the text does.
-- Each end is the law of a group of that length.
use native.Mathlib.Omega.{arith}
use Rattle.buffer.proofs.Laws.{then, nothing}
use Rattle.base64text.proofs.Turns.{few_decoded, two_decoded, three_decoded, four_decoded}
use Rattle.base64text.proofs.decode_group.Goals as goal

pub returns-then-t-lt2 : goal.returns-then-t-lt2
returns-then-t-lt2 c = rw (few_decoded _ c.if-t-lt2.true) nothing

pub returns-then-t-eq2 : goal.returns-then-t-eq2
returns-then-t-eq2 c = rw (two_decoded _ c.six_bits-a.ensures c.six_bits-b.ensures c.if-t-eq2.true) c.put_byte-o.ensures

pub returns-then-t-eq3 : goal.returns-then-t-eq3
returns-then-t-eq3 c =
    rw (three_decoded _ c.six_bits-a.ensures c.six_bits-b.ensures c.six_bits-c.ensures c.if-t-eq3.true)
    (then c.put_byte-o.ensures c.put_byte-p.ensures)

pub returns : goal.returns
returns c =
    rw (four_decoded c.args.t.now c.six_bits-a.ensures c.six_bits-b.ensures c.six_bits-c.ensures (omega arith) c.six_bits-d.ensures)
    (then (then c.put_byte-o.ensures c.put_byte-p.ensures) c.put_byte.ensures)
