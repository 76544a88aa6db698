-- `tag_len` reads a tag and measures it: its bracket, its texts, and 9 where there are none.
-- By the laws of a tag for each outcome.
use native.Mathlib.Omega.{arith}
use Rattle.event.proofs.Handed.{handed_on}
use Rattle.jsonfields.proofs.Values.{tag_not, tag_refused, tag_room, tag_empty, tag_taken}
use Rattle.jsonfields.proofs.tag_len.Goals as goal

pub returns-then-byte_at-ne91 : goal.returns-then-byte_at-ne91
returns-then-byte_at-ne91 c = rw c.not_allowed.ensures (tag_not _ _ c.byte_at.ensures c.if-byte_at-ne91.true)

pub returns-in_err-t : goal.returns-in_err-t
returns-in_err-t c =
    rw (handed_on _ c.from_residual.ensures) (tag_refused _ _ c.byte_at.ensures c.if-byte_at-ne91.false c.skip_space-first.ensures c.in_err-t.ensures)

pub returns-then-t-eq0 : goal.returns-then-t-eq0
returns-then-t-eq0 c =
    tag_empty _ _ c.byte_at.ensures c.if-byte_at-ne91.false c.skip_space-first.ensures c.in_ok-t.ensures c.if-t-eq0.true

pub overflow_add-result : goal.overflow_add-result
overflow_add-result c =
    let room = tag_room _ _ c.byte_at.ensures c.if-byte_at-ne91.false c.skip_space-first.ensures c.in_ok-t.ensures (omega arith) in
    omega (arith, room, c.varint_len.ensures)

pub returns : goal.returns
returns c =
    tag_taken _ _ c.byte_at.ensures c.if-byte_at-ne91.false c.skip_space-first.ensures c.in_ok-t.ensures c.if-t-eq0.false c.varint_len.ensures.value
