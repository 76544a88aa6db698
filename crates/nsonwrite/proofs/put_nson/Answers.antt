-- `put_nson` writes the whole text.
-- Three writers in a row are one.
use Rattle.buffer.proofs.Laws.{then}
use Rattle.nson.specs.Nson.{nson_field, nson}
use Rattle.nsonwrite.proofs.put_nson.Goals as goal

pub returns : goal.returns
unfolding nson nson_field
returns c =
    let field = rw c.requires.d_value at c.put_nson_field-b.ensures in
    then (then c.put_nson_head-a.ensures field) c.put_nson_body.ensures
