-- `put_canonical` writes the whole text, piece by piece. Five writers in a row are one.
use Rattle.buffer.proofs.Laws.{then}
use Rattle.canonical.proofs.Whole.{row_wrote}
use Rattle.canonical.proofs.put_canonical.Goals as goal

pub returns : goal.returns
returns c =
    let p = c.args.packed.now in
    row_wrote p.bytes.now p.head
    (then
    (then (then (then c.put_opening-a.ensures c.put_arrays-b.ensures) c.put_bytes-c.ensures) c.put_quoted-d.ensures)
    c.put_bytes.ensures)
