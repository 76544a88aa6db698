-- `put_state` writes the 104 bytes of a state: three writers in a row (`then`).
use Rattle.buffer.proofs.Laws.{then}
use Rattle.sha256bytes.specs.StateBytes.{bytes_of_state}
use Rattle.sha256bytes.proofs.put_state.Goals as goal

pub returns : goal.returns
unfolding bytes_of_state
returns c =
    then (then c.put_words-a.ensures c.put_number-b.ensures) c.put_bytes.ensures
