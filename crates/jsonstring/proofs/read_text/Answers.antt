-- `read_text` reads a string, and tells whether it is short and plain.
-- Plain bytes up to a quote are a string and its own text; else by the promise of `read_string`.
use native.Mathlib.Omega.{arith}
use Rattle.jsonstring.proofs.PlainLaws.{plain_own, short_is, short_inside, short_string}
use Rattle.jsonstring.proofs.read_text.Goals as goal

pub overflow_add-from : goal.overflow_add-from
overflow_add-from c = omega (arith, short_inside (short_is _ _ c.in-Some.ensures))

pub overflow_sub-count : goal.overflow_sub-count
overflow_sub-count c = omega (arith, short_inside (short_is _ _ c.in-Some.ensures))

pub overflow_add-result : goal.overflow_add-result
overflow_add-result c = omega (arith, short_inside (short_is _ _ c.in-Some.ensures))

pub returns-in-Some-clause-result_value : goal.returns-in-Some-clause-result_value
returns-in-Some-clause-result_value c = short_string (short_is _ _ c.in-Some.ensures)

pub returns-in-Some-clause-plain_text : goal.returns-in-Some-clause-plain_text
returns-in-Some-clause-plain_text c =
    let v = short_is _ _ c.in-Some.ensures in
    (v.is, plain_own c.args.s.now _ _ v.plain)
