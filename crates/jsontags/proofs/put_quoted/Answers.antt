-- `put_quoted` writes a part's text as a string.
-- Three writers in a row are one.
use Rattle.buffer.proofs.Laws.{then}
use Rattle.jsontags.specs.TagText.{quoted}
use Rattle.jsontags.proofs.put_quoted.Goals as goal

pub returns : goal.returns
unfolding quoted
returns c =
    then (then c.put_byte-a.ensures c.put_escaped_part-b.ensures) c.put_byte.ensures
