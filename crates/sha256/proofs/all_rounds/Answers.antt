use Rattle.std.proofs.Common.{arith, rules}
use Rattle.sha256.proofs.Turns.{going_turn, going_done}
use Rattle.sha256.proofs.all_rounds.Goals as goal

pub loop-i-preserved : goal.loop-i-preserved
loop-i-preserved c =
    let q = c.loop-i in
    going_turn q.i (omega arith) q.invariant c.extend_eight.ensures (search rules) c.eight_rounds-v.ensures

pub returns : goal.returns
returns c = going_done c.loop-i.i (omega arith) c.loop-i.invariant c.eight_rounds-v-2.ensures c.eight_rounds.ensures
