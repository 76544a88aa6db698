-- `put_nson_body` writes all behind the nson field, piece by piece.
-- Seven writers in a row are one.
use Rattle.buffer.proofs.Laws.{then}
use Rattle.notepack.specs.inner.Again.{event_again}
use Rattle.nsonwrite.proofs.Whole.{body_wrote}
use Rattle.nsonwrite.proofs.put_nson_body.Goals as goal

pub returns : goal.returns
unfolding event_again
returns c =
    let a = c.args in
    body_wrote (event_again a.s.now a.h)
    (then
    (then
    (then
    (then (then (then c.put_bytes-a.ensures c.put_decimal-b.ensures) c.put_bytes-c.ensures) c.put_escaped_part-d.ensures)
    c.put_bytes-e.ensures)
    c.put_arrays-f.ensures)
    c.put_bytes.ensures)
