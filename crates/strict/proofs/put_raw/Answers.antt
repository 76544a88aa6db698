-- `put_raw` writes the strict element whose text is the hex of its bytes: as those bytes, or 00 where there are none.
-- By the law of `pack_element` for each; a slice's numbers are bytes.
use Rattle.std.proofs.Common.{sym, ◌∙◌}
use borrow.Author.Tests.{eqb-true, eqb-false}
use Rattle.scan.proofs.AllLaws.{all_places}
use Rattle.buffer.proofs.Laws.{then}
use Rattle.notepack.proofs.Lengths.{element_hex, element_none}
use Rattle.strict.proofs.put_raw.Goals as goal

pub returns-then-is_empty : goal.returns-then-is_empty
returns-then-is_empty c = rw (element_none c.args.b.now (eqb-true _ _ (sym c.is_empty.ensures ∙ c.if-is_empty.true))) c.put_byte.ensures

pub returns : goal.returns
returns c =
    let bs = c.args.b.now in
    let bytes = all_places bs (λ i. (c.type_inv.b i).fits) in
    rw (element_hex bs bytes (eqb-false _ _ (sym c.is_empty.ensures ∙ c.if-is_empty.false))) (then c.put_varint-o.ensures c.put_bytes.ensures)
