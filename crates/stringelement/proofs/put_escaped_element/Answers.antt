-- `put_escaped_element` writes the element's word and then its payload, by whether the text goes as bytes.
-- Two writers in a row are one; the form is that of the length that was measured.
use native.Mathlib.Omega.{arith}
use Rattle.buffer.proofs.Laws.{then}
use Rattle.stringelement.proofs.Laws.{text_most, as_bytes, as_text}
use Rattle.stringelement.proofs.put_escaped_element.Goals as goal

pub returns-then-unescaped_goes_as_bytes : goal.returns-then-unescaped_goes_as_bytes
returns-then-unescaped_goes_as_bytes c = rw (as_bytes _ c.unescaped_len-k.ensures.value c.unescaped_goes_as_bytes.ensures c.if-unescaped_goes_as_bytes.true) (then c.put_varint-o.ensures c.put_unescaped_unhex.ensures)

pub overflow_mul-k-2 : goal.overflow_mul-k-2
overflow_mul-k-2 c = omega (arith, text_most c.args.s.now c.args.from c.args.n c.unescaped_len-k.ensures.value)

pub returns : goal.returns
returns c = rw (as_text _ c.unescaped_len-k.ensures.value c.unescaped_goes_as_bytes.ensures c.if-unescaped_goes_as_bytes.false) (then c.put_varint-o-2.ensures c.put_unescaped.ensures)
