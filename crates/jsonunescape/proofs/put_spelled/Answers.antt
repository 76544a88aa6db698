use Rattle.std.proofs.Common.{arith}
use Rattle.buffer.proofs.Laws.{part, one, also, done}
use Rattle.jsonunescape.proofs.Unescape.{run_inside, unescape_run, unescape_end, turn_text}
use Rattle.jsonunescape.proofs.Letters.{letter_text}
use Rattle.jsonunescape.proofs.put_spelled.Goals as goal

pub loop-i-preserved : goal.loop-i-preserved
loop-i-preserved c =
    let x = c.escape_or_itself-x in
    let q = c.next_backslash-e.ensures in
    let left = part (also (unescape_run _ _ q) c.loop-i.invariant) c.put_bytes-o.ensures in
    part (also (turn_text _ _ _ x.result q c.if-t-e.false x.ensures) left) c.put_scalar-o.ensures

pub loop-i-preserved-in-Some : goal.loop-i-preserved-in-Some
loop-i-preserved-in-Some c =
    let q = c.next_backslash-e.ensures in
    let b = c.in-Some.ensures in
    let left = part (also (unescape_run _ _ q) c.loop-i.invariant) c.put_bytes-o.ensures in
    one (also (letter_text _ _ _ _ _ q c.if-t-e.false c.byte_at.ensures b.value (λ z. omega (arith, b.nonzero))) left) c.put_byte-o.ensures

pub returns : goal.returns
returns c = done (also (unescape_end _ _ c.loop-i-test.false) c.loop-i.invariant)

pub returns-then-t-e : goal.returns-then-t-e
returns-then-t-e c =
    let left = part (also (unescape_run _ _ c.next_backslash-e.ensures) c.loop-i.invariant) c.put_bytes-o.ensures in
    done (also (unescape_end _ _ c.if-t-e.true) left)

pub slice_bounds-put_bytes-end : goal.slice_bounds-put_bytes-end
slice_bounds-put_bytes-end c = omega (arith, run_inside _ _ c.next_backslash-e.ensures (omega arith))
