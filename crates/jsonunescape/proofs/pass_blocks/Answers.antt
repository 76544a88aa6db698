use Rattle.std.proofs.Common.{arith, sym, ◌∙◌}
use Rattle.scan.proofs.Chunks.{chunk_rest, chunk_inside}
use Rattle.jsonunescape.proofs.RunLaws.{run_block}
use Rattle.jsonunescape.proofs.pass_blocks.Goals as goal

pub loop-block-preserved : goal.loop-block-preserved
loop-block-preserved c =
    let q = c.loop-block in
    let v = q.invariant in
    let turn = c.in-Some.ensures.steps in
    let cut = sym v.rest ∙ turn.1.0 in
    let n = turn.1.1 ∙ v.size in
    record {
      size = turn.0 ∙ v.size;
      rest = chunk_rest c.args.t.now q.i _ _ _ cut n;
      onward = omega (arith, v.onward);
      inside = chunk_inside c.args.t.now q.i _ _ _ cut n v.inside;
      run = run_block c.args.t.now c.args.at q.i _ _ v.run v.inside cut n c.stops.ensures c.if-stops-ne0.false;
    }
