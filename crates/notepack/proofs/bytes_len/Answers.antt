-- `bytes_len` is the length of the strict element whose text is the hex of its bytes.
-- By the laws of lengths; a slice's numbers are bytes.
use Rattle.std.proofs.Common.{sym, ◌∙◌, arith}
use borrow.Author.Tests.{eqb-true, eqb-false}
use Rattle.scan.proofs.AllLaws.{all_places}
use Rattle.notepack.proofs.Lengths.{length_hex, length_no_hex}
use Rattle.notepack.proofs.bytes_len.Goals as goal

pub returns-then-is_empty : goal.returns-then-is_empty
returns-then-is_empty c =
    let e = length_no_hex c.args.b.now (eqb-true _ _ (sym c.is_empty.ensures ∙ c.if-is_empty.true)) in
    record { value = sym e; upper_bound = omega arith }

pub returns : goal.returns
returns c =
    let b = c.args.b.now in
    let known = all_places b (λ i. (c.type_inv.b i).fits) in
    let e = length_hex b known (eqb-false _ _ (sym c.is_empty.ensures ∙ c.if-is_empty.false)) in
    omega (arith, e, c.varint_len.ensures)
