use Rattle.std.proofs.Common.{arith, sym, ◌∙◌}
use Rattle.scan.proofs.Chunks.{chunk_rest, chunk_inside}
use Rattle.jsonunescape.proofs.RunLaws.{run_four}
use Rattle.jsonunescape.proofs.pass_fours.Goals as goal

pub loop-four-preserved : goal.loop-four-preserved
loop-four-preserved c =
    let q = c.loop-four in
    let v = q.invariant in
    let turn = c.in-Some.ensures.steps in
    let cut = sym v.rest ∙ turn.1.0 in
    let n = turn.1.1 ∙ v.size in
    record {
      size = turn.0 ∙ v.size;
      rest = chunk_rest c.args.t.now q.i _ _ _ cut n;
      onward = omega (arith, v.onward);
      inside = chunk_inside c.args.t.now q.i _ _ _ cut n v.inside;
      run = run_four c.args.t.now c.args.at q.i _ _ v.run v.inside cut n c.contains.ensures.value c.if-contains.false;
    }
