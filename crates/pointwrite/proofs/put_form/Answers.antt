-- `put_form` writes the whole form: all in front of the data, the data, id and sig. Four writers in a row are one.
use Rattle.buffer.proofs.Laws.{then}
use Rattle.pointwrite.proofs.Whole.{form_wrote}
use Rattle.pointwrite.proofs.put_form.Goals as goal

pub returns : goal.returns
returns c =
    form_wrote c.args.form.now.packed.bytes.now c.args.form.now.packed.head
    (then c.put_front-a.ensures (then c.put_data-b.ensures (then c.put_part-c.ensures c.put_part.ensures)))
