-- `encode_group` writes the characters of the first three bytes one by one, and ends where the bytes do.
-- Each end is the law of a group of that length.
use Rattle.std.proofs.Common.{◌≡◌, ◌≢◌, length, arith, rules}
use borrow.Author.Tests.{tests}
use Rattle.buffer.proofs.Laws.{then, nothing}
use Rattle.base64text.proofs.Turns.{none_encoded, one_encoded, two_encoded, three_encoded}
use Rattle.base64text.proofs.encode_group.Goals as goal

pub returns-then-is_empty : goal.returns-then-is_empty
returns-then-is_empty c = let e : length c.args.s.now ≡ 0 = search (rules, tests) in rw (none_encoded _ e) nothing

pub returns-then-s-eq1 : goal.returns-then-s-eq1
returns-then-s-eq1 c =
    rw (one_encoded _ (λ j. (c.type_inv.s j).fits) c.if-s-eq1.true c.character_of.ensures c.character_of-then-s-eq1.ensures)
    (then c.put_byte-o.ensures c.put_byte.ensures)

pub overflow_add-a : goal.overflow_add-a
overflow_add-a c = omega (arith, c.type_inv.s 1)

pub returns-then-s-eq2 : goal.returns-then-s-eq2
returns-then-s-eq2 c =
    rw (two_encoded _ (λ j. (c.type_inv.s j).fits) c.if-s-eq2.true c.character_of.ensures c.character_of-2.ensures c.character_of-then-s-eq2.ensures)
    (then (then c.put_byte-o.ensures c.put_byte-p.ensures) c.put_byte-then-s-eq2.ensures)

pub overflow_add-b : goal.overflow_add-b
overflow_add-b c = omega (arith, c.type_inv.s 2)

pub returns : goal.returns
returns c =
    let n : length c.args.s.now ≢ 0 = search (rules, tests) in
    rw (three_encoded c.args.s.now (λ j. (c.type_inv.s j).fits) (omega (arith, n)) c.character_of.ensures c.character_of-2.ensures c.character_of-3.ensures c.character_of-4.ensures)
    (then (then (then c.put_byte-o.ensures c.put_byte-p.ensures) c.put_byte-q.ensures) c.put_byte-2.ensures)
