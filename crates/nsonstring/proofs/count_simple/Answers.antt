use Rattle.std.proofs.Common.{◌+◌, arith}
use Rattle.nsonstring.proofs.Counting.{counting_block}
use Rattle.nsonstring.proofs.count_simple.Goals as goal

pub loop-i-preserved : goal.loop-i-preserved
loop-i-preserved c =
    let q = c.loop-i in
    record {
      counting = counting_block (q.i + 128) q.invariant.counting (omega arith) (omega arith) c.in_ok-k.ensures;
      ended = q.invariant.ended;
    }
