-- `put_packed_head` writes all in front of the tags, piece by piece.
-- Six writers in a row are one.
use Rattle.buffer.proofs.Laws.{then}
use Rattle.strict.specs.inner.Copy.{packed_head}
use Rattle.strict.proofs.put_packed_head.Goals as goal

pub returns : goal.returns
unfolding packed_head
returns c =
    then
    (then
    (then (then (then c.put_part-a.ensures c.put_varint-b.ensures) c.put_varint-c.ensures) c.put_varint-d.ensures)
    c.put_part-e.ensures)
    c.put_varint.ensures
