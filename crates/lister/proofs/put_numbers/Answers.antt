-- `put_numbers` writes the four lines of an event's numbers.
-- Nine writers in a row are one.
use Rattle.buffer.proofs.Laws.{then}
use Rattle.lister.specs.Listing.{numbers_text}
use Rattle.lister.proofs.put_numbers.Goals as goal

pub returns : goal.returns
unfolding numbers_text
returns c =
    then
    (then
    (then
    (then
    (then (then (then (then c.put_bytes-a.ensures c.put_decimal-b.ensures) c.put_bytes-c.ensures) c.put_decimal-d.ensures) c.put_bytes-e.ensures)
    c.put_decimal-f.ensures)
    c.put_bytes-g.ensures)
    c.put_decimal-i.ensures)
    c.put_bytes.ensures
