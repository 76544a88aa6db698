-- `put_packed_text` writes the strict element of its text, as bytes or as text.
-- By the law of `pack_element` for each form; two writers in a row are one.
use Rattle.buffer.proofs.Laws.{then}
use Rattle.notepack.proofs.Lengths.{element_bytes, element_text}
use Rattle.strict.proofs.put_packed_text.Goals as goal

pub returns-then-goes_as_bytes : goal.returns-then-goes_as_bytes
returns-then-goes_as_bytes c =
    let form = element_bytes c.args.t.now _ c.goes_as_bytes.ensures c.if-goes_as_bytes.true in
    rw form (then c.put_varint-o.ensures c.put_unhex.ensures)

pub returns : goal.returns
returns c =
    let form = element_text c.args.t.now _ c.goes_as_bytes.ensures c.if-goes_as_bytes.false in
    rw form (then c.put_varint-o-2.ensures c.put_bytes.ensures)
