-- `put_front` writes all in front of the data, piece by piece. Six writers in a row are one.
use native.Mathlib.Omega.{arith}
use Rattle.buffer.proofs.Laws.{then}
use Rattle.notepack.specs.Unpack.{text_of}
use Rattle.pointwrite.proofs.Lengths.{length_padded}
use Rattle.pointwrite.proofs.Whole.{data_parts, front_wrote}
use Rattle.pointwrite.proofs.put_front.Goals as goal

-- the content stands in the data
pub put_pointer-e-requires : goal.put_pointer-e-requires
put_pointer-e-requires c =
    let f = c.args.form.now in
    omega (arith, data_parts f.packed.bytes.now f.packed.head, length_padded (text_of f.packed.bytes.now f.packed.head.content), c.text_len-content.ensures.value, c.args.form.now.len_value, c.args.form.now.len_bound)

-- and so does the table of tags
pub overflow_mul-h : goal.overflow_mul-h
overflow_mul-h c = omega (arith, data_parts c.args.form.now.packed.bytes.now c.args.form.now.packed.head, c.args.form.now.len_value, c.args.form.now.len_bound)

pub put_pointer-requires : goal.put_pointer-requires
put_pointer-requires c = omega (arith, data_parts c.args.form.now.packed.bytes.now c.args.form.now.packed.head, c.padded_len-tags.ensures.value, c.args.form.now.len_value, c.args.form.now.len_bound)

pub returns : goal.returns
returns c =
    front_wrote c.args.form.now.packed.bytes.now c.args.form.now.packed.head c.padded_len-tags.ensures.value c.args.form.now.len_value c.text_len-content.ensures.value c.time_word.ensures
    (then c.put_word-a.ensures
    (then c.put_part-b.ensures
    (then c.put_word-c.ensures
    (then c.put_word-d.ensures (then c.put_pointer-e.ensures c.put_pointer.ensures)))))
