-- `put_data` writes the content with its filling, the table of tags, and the tags. Three writers in a row are one.
use native.Mathlib.Omega.{arith}
use Rattle.buffer.proofs.Laws.{then}
use Rattle.pointwrite.proofs.Whole.{data_parts, data_wrote}
use Rattle.pointwrite.proofs.put_data.Goals as goal

pub overflow_mul-offset : goal.overflow_mul-offset
overflow_mul-offset c = omega (arith, data_parts c.args.form.now.packed.bytes.now c.args.form.now.packed.head, c.args.form.now.len_value, c.args.form.now.len_bound)

pub overflow_add-offset : goal.overflow_add-offset
overflow_add-offset c = omega (arith, data_parts c.args.form.now.packed.bytes.now c.args.form.now.packed.head, c.padded_len.ensures.value, c.args.form.now.len_value, c.args.form.now.len_bound)

pub put_tag_pointers-b-requires : goal.put_tag_pointers-b-requires
put_tag_pointers-b-requires c = omega (arith, data_parts c.args.form.now.packed.bytes.now c.args.form.now.packed.head, c.padded_len.ensures.value, c.args.form.now.len_value, c.args.form.now.len_bound)

pub put_tags-requires : goal.put_tags-requires
put_tags-requires c = omega (arith, data_parts c.args.form.now.packed.bytes.now c.args.form.now.packed.head, c.padded_len.ensures.value, c.args.form.now.len_value, c.args.form.now.len_bound)

pub returns : goal.returns
returns c =
    data_wrote c.args.form.now.packed.bytes.now c.args.form.now.packed.head c.padded_len.ensures.value
    (then c.put_padded-a.ensures (then c.put_tag_pointers-b.ensures c.put_tags.ensures))
