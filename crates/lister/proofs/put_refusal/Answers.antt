-- `put_refusal` writes the line of a refusal.
-- Five writers in a row are one.
use Rattle.buffer.proofs.Laws.{then}
use Rattle.lister.specs.Listing.{refusal_text}
use Rattle.lister.proofs.put_refusal.Goals as goal

pub returns : goal.returns
unfolding refusal_text
returns c =
    rw (← c.number.ensures)
    (then (then (then (then c.put_bytes-a.ensures c.put_decimal-b.ensures) c.put_bytes-c.ensures) c.put_decimal-d.ensures) c.put_bytes.ensures)
