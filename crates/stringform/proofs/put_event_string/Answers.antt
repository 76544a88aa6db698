-- `put_event_string` writes the strict bytes behind what stands in front of them into the scratch, where they have
-- room, and their string form from there.
use mathlib.Core.Path.{◌∙◌}
use lib.ListN.{length-replicate}
use Rattle.buffer.proofs.Laws.{then}
use Rattle.buffer.proofs.Places.{stands_whole}
use Rattle.stringform.proofs.put_event_string.Goals as goal

pub returns : goal.returns
returns g c =
    let e = c.part.ensures ∙ stands_whole (rw length-replicate c.requires.room) (then (rw c.front.ensures at c.put_bytes-o.ensures) c.put_packed-n.ensures) in
    record { result_value = rw e at c.put_string.ensures.result_value; out_after = rw e at c.put_string.ensures.out_after }
