-- `put_spelled_element`: what goes as bytes has no backslash, and a string with no backslash is its own text.
-- By the law of the element for each form; two writers in a row are one. With a backslash the other function writes it.
use Rattle.buffer.proofs.Laws.{then}
use Rattle.stringelement.proofs.Laws.{digits_element, plain_element}
use Rattle.stringelement.proofs.put_spelled_element.Goals as goal

pub returns-then-goes_as_bytes : goal.returns-then-goes_as_bytes
returns-then-goes_as_bytes c =
    let form = digits_element c.part-t.ensures c.goes_as_bytes.ensures c.if-goes_as_bytes.true in
    rw form (then c.put_varint-o.ensures c.put_unhex.ensures)

pub returns-then-t-next_backslash : goal.returns-then-t-next_backslash
returns-then-t-next_backslash c =
    let form =
    plain_element c.part-t.ensures c.goes_as_bytes.ensures c.if-goes_as_bytes.false c.next_backslash.ensures c.if-t-next_backslash.true in
    rw form (then c.put_varint-o-then-t-next_backslash.ensures c.put_bytes.ensures)
