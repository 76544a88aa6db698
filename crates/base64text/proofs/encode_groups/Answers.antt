use Rattle.std.proofs.Common.{◌+◌, get_or-drop, length-drop, length-set, arith}
use Rattle.scan.proofs.Step.{rest_whole}
use Rattle.buffer.proofs.Laws.{also, done}
use Rattle.base64text.proofs.Turns.{encode_turn, four_bytes, none_left}
use Rattle.base64text.proofs.encode_groups.Goals as goal

pub loop-left-preserved : goal.loop-left-preserved
loop-left-preserved c =
    let q = c.loop-left in
    let u = encode_turn q.left.now 0 (omega arith) q.invariant.3 c.character_of.ensures c.character_of-in-len3-up.ensures c.character_of-in-len3-up-2.ensures c.character_of-in-len3-up-3.ensures in
    rw (rest_whole q.left.now 3) (omega (arith, length-drop 3 q.left.now), simp (length-set, length-drop) (omega arith), four_bytes q.o _ _ _ _ (omega arith) (also u q.invariant.2), λ j. rw (get_or-drop 3 q.left.now j 0) (q.invariant.3 (3 + j)))

pub returns : goal.returns
returns c = done (also (none_left _ (omega (arith, c.in_default.len_below))) c.loop-left.invariant.2)
