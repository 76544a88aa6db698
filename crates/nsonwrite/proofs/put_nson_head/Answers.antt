-- `put_nson_head` writes all in front of the nson field, piece by piece.
-- Nine writers in a row are one.
use Rattle.buffer.proofs.Laws.{then}
use Rattle.notepack.specs.inner.Again.{event_again}
use Rattle.nson.specs.Nson.{head_text}
use Rattle.nsonwrite.proofs.put_nson_head.Goals as goal

pub returns : goal.returns
unfolding head_text event_again
returns c =
    let idHex = rw c.part.ensures at c.put_hex-b.ensures in
    let keyHex = rw c.part-2.ensures at c.put_hex-d.ensures in
    let sigHex = rw c.part-3.ensures at c.put_hex-f.ensures in
    then
    (then
    (then
    (then (then (then (then (then c.put_bytes-a.ensures idHex) c.put_bytes-c.ensures) keyHex) c.put_bytes-e.ensures) sigHex)
    c.put_bytes-g.ensures)
    c.put_decimal-i.ensures)
    c.put_bytes.ensures
