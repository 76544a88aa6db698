-- `put_strict_of` writes all in front of the tags, then the tags.
-- Two writers in a row are one.
use Rattle.buffer.proofs.Laws.{then}
use Rattle.nsonread.specs.inner.Copy.{strict_of}
use Rattle.nsonread.proofs.put_strict_of.Goals as goal

pub returns : goal.returns
unfolding strict_of
returns c = then c.put_nson_front-o.ensures c.put_nson_tags.ensures
