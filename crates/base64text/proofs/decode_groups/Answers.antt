use Rattle.std.proofs.Common.{length-drop, length-set, arith}
use Rattle.scan.proofs.Step.{rest_whole}
use Rattle.buffer.proofs.Laws.{also, done}
use Rattle.base64text.proofs.Turns.{decode_turn, three_bytes, none_decoded}
use Rattle.base64text.proofs.decode_groups.Goals as goal

pub loop-left-preserved : goal.loop-left-preserved
loop-left-preserved c =
    let q = c.loop-left in
    let u = decode_turn q.left.now 0 (omega arith) c.six_bits-a.ensures c.six_bits-b.ensures c.six_bits-c.ensures c.six_bits-d.ensures in
    rw (rest_whole q.left.now 4) (omega (arith, length-drop 4 q.left.now), simp (length-set, length-drop) (omega arith), three_bytes q.o _ _ _ (omega arith) (also u q.invariant.2))

pub returns : goal.returns
returns c = done (also (none_decoded _ (omega (arith, c.in_default.len_below))) c.loop-left.invariant.2)
