-- `escaped_element_len`: the element's form, by whether the text goes as bytes, with the length that was measured.
-- A text is no longer than its spelling, so nothing passes a word.
use native.Mathlib.Omega.{arith}
use Rattle.stringelement.proofs.Laws.{text_most, bytes_length, text_length}
use Rattle.stringelement.proofs.escaped_element_len.Goals as goal

pub returns-then-unescaped_goes_as_bytes : goal.returns-then-unescaped_goes_as_bytes
returns-then-unescaped_goes_as_bytes c = let e = bytes_length _ c.unescaped_len-k.ensures.value c.unescaped_goes_as_bytes.ensures c.if-unescaped_goes_as_bytes.true in omega (arith, e, c.varint_len.ensures, text_most c.args.s.now c.args.from c.args.n c.unescaped_len-k.ensures.value)

pub overflow_mul-k-2 : goal.overflow_mul-k-2
overflow_mul-k-2 c = omega (arith, text_most c.args.s.now c.args.from c.args.n c.unescaped_len-k.ensures.value)

pub overflow_add-result-2 : goal.overflow_add-result-2
overflow_add-result-2 c = omega (arith, c.varint_len-2.ensures, text_most c.args.s.now c.args.from c.args.n c.unescaped_len-k.ensures.value)

pub returns : goal.returns
returns c = let e = text_length _ c.unescaped_len-k.ensures.value c.unescaped_goes_as_bytes.ensures c.if-unescaped_goes_as_bytes.false in omega (arith, e, c.varint_len-2.ensures, text_most c.args.s.now c.args.from c.args.n c.unescaped_len-k.ensures.value)
