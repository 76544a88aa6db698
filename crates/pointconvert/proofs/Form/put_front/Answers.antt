-- `put_front` writes all in front of the tags, piece by piece. Eight writers in a row are one.
use Rattle.buffer.proofs.Laws.{then}
use Rattle.pointconvert.specs.inner.Again.{packed_front}
use Rattle.pointconvert.proofs.Form.put_front.Goals as goal

pub returns : goal.returns
unfolding packed_front
returns c =
    then
    (then
    (then
    (then
    (then (then (then c.put_part-a.ensures c.put_part-b.ensures) c.put_part-c.ensures) c.put_varint-d.ensures)
    c.put_varint-e.ensures)
    c.put_varint-g.ensures)
    c.put_part-h.ensures)
    c.put_varint.ensures
