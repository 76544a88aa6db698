use Rattle.std.proofs.Common.{arith, rules, ◌+◌}
use Rattle.sha256.proofs.Turns.{schedule_turn, schedule_done}
use Rattle.sha256.proofs.extend_eight.Goals as goal

pub loop-i-preserved : goal.loop-i-preserved
loop-i-preserved c =
    let q = c.loop-i in
    schedule_turn _ _ q.i (c.args.t + 8) _ (search rules) (omega arith) (omega arith) (omega arith) q.invariant c.next_word.ensures

pub returns : goal.returns
returns c =
    let q = c.loop-i in
    schedule_done _ _ q.i (c.args.t + 8) (omega arith) (omega arith) q.invariant
