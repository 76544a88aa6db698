-- `spelled_element_len`: what goes as bytes has no backslash, and a string with no backslash is its own text.
-- By the law of the element's length for each form; with a backslash the other function measures it.
use mathlib.Core.Path.{ap}
use native.Mathlib.Omega.{arith}
use lib.ListN.{length}
use Rattle.stringelement.proofs.Laws.{part_most, digits_length, plain_length}
use Rattle.stringelement.proofs.spelled_element_len.Goals as goal

pub returns-then-goes_as_bytes : goal.returns-then-goes_as_bytes
returns-then-goes_as_bytes c =
    let args = c.args in
    let p = c.part-t.ensures in
    let e = digits_length p c.goes_as_bytes.ensures c.if-goes_as_bytes.true in
    omega (arith, e, c.varint_len.ensures, ap length p, part_most args.s.now args.from args.n)

pub returns-then-t-next_backslash : goal.returns-then-t-next_backslash
returns-then-t-next_backslash c =
    let args = c.args in
    let p = c.part-t.ensures in
    let e = plain_length p c.goes_as_bytes.ensures c.if-goes_as_bytes.false c.next_backslash.ensures c.if-t-next_backslash.true in
    omega (arith, e, c.varint_len-then-t-next_backslash.ensures, ap length p, part_most args.s.now args.from args.n)
