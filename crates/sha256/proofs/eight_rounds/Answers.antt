use Rattle.std.proofs.Common.{arith, ◌+◌}
use Rattle.sha256.specs.Constants.{constants}
use Rattle.sha256.proofs.Turns.{rounds_turn, rounds_done}
use Rattle.sha256.proofs.eight_rounds.Goals as goal

pub loop-i-preserved : goal.loop-i-preserved
unfolding constants
loop-i-preserved c =
    let q = c.loop-i in
    rounds_turn _ (c.args.t + 8) q.i _ _ _ q.invariant (omega arith) c.one_round-v.ensures

pub returns : goal.returns
returns c = rounds_done _ (c.args.t + 8) _ _ _ c.loop-i.invariant (omega arith)
