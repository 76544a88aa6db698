-- `put_packed` writes all in front of the tags, and then the tags.
use Rattle.buffer.proofs.Laws.{then}
use Rattle.strict.specs.inner.Copy.{packed_pieces}
use Rattle.strict.proofs.put_packed.Goals as goal

pub returns : goal.returns
unfolding packed_pieces
returns c = then c.put_packed_head-o.ensures c.copy_tags.ensures
