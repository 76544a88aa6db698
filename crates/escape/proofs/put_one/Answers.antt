-- `put_one` writes a byte as one or as two, by the test.
-- Each return is what the byte becomes under the test's outcome: `byte_two`, `byte_one`.
use Rattle.buffer.proofs.Laws.{then}
use Rattle.escape.proofs.ByteLaws.{byte_two, byte_one}
use Rattle.escape.proofs.put_one.Goals as goal

pub returns-then-is_escaped : goal.returns-then-is_escaped
returns-then-is_escaped c =
    let b = c.args.b in
    let letter = rw c.escape_letter.ensures at c.put_byte.ensures in
    rw (byte_two _ b c.is_escaped.ensures c.if-is_escaped.true) (then c.put_byte-o.ensures letter)

pub returns-else-is_escaped : goal.returns-else-is_escaped
returns-else-is_escaped c =
    let b = c.args.b in
    rw (byte_one _ b c.is_escaped.ensures c.if-is_escaped.false) c.put_byte-else-is_escaped.ensures
