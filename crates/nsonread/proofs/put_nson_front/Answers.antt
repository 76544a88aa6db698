-- `put_nson_front` writes all in front of the tags, piece by piece.
-- Eight writers in a row are one.
use Rattle.buffer.proofs.Laws.{then}
use Rattle.nsonread.specs.inner.Copy.{nson_front_text}
use Rattle.nsonread.proofs.put_nson_front.Goals as goal

pub returns : goal.returns
unfolding nson_front_text
returns c =
    let u = rw c.part.ensures at c.put_unhex-a.ensures in
    let v = rw c.part-2.ensures at c.put_unhex-b.ensures in
    let w = rw c.part-3.ensures at c.put_unhex-c.ensures in
    let f = rw c.from.ensures at c.put_varint-f.ensures in
    let g = rw (c.content_at.ensures, c.from-2.ensures) at c.put_unescaped-g.ensures in
    let z = rw c.from-3.ensures at c.put_varint.ensures in
    then u (then v (then w (then c.put_varint-d.ensures (then c.put_varint-e.ensures (then f (then g z))))))
