use Rattle.std.proofs.Common.{arith, ap, sym, length, length-append, take-append-drop}
use Rattle.scan.proofs.Chunks.{sum_chunk}
use Rattle.jsonunescape.specs.inner.Run.{is_slash}
use Rattle.jsonunescape.proofs.slashes.Goals as goal

pub loop-block-preserved : goal.loop-block-preserved
loop-block-preserved c =
    let v = c.loop-block.invariant in
    let k = c.in-Some.ensures.cases in
    let cut = rw (← k.0, ← k.1) at (sym (take-append-drop 128 c.loop-block.left.now)) in
    let b = c.backslashes.ensures in
    record {
      sum = rw c.from-n.ensures (sum_chunk is_slash _ _ _ v.sum _ _ cut b.value);
      few = omega (arith, v.few, c.from-n.ensures, b.upper_bound, simp length-append at (ap length cut));
    }
