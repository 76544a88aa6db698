-- `put_opening` writes all in front of the tags, piece by piece.
-- Seven writers in a row are one; the pubkey's text is its hex.
use Rattle.buffer.proofs.Laws.{then}
use Rattle.notepack.specs.Unpack.{text_of}
use Rattle.notepack.specs.inner.Again.{event_again}
use Rattle.canonical.specs.inner.Opening.{opening}
use Rattle.canonical.proofs.put_opening.Goals as goal

pub returns : goal.returns
unfolding opening event_again text_of
returns c =
    then
    (then
    (then
    (then (then (then c.put_bytes-a.ensures c.put_quoted-b.ensures) c.put_bytes-c.ensures) c.put_decimal-d.ensures)
    c.put_bytes-e.ensures)
    c.put_decimal-f.ensures)
    c.put_bytes.ensures
