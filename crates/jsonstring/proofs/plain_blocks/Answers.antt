use Rattle.scan.proofs.Chunks.{chunk_rest}
use Rattle.std.proofs.Common.{sym, ◌∙◌}
use Rattle.jsonstring.proofs.PlainLaws.{plain_block}
use Rattle.jsonstring.proofs.plain_blocks.Goals as goal

pub loop-block-preserved : goal.loop-block-preserved
loop-block-preserved c =
    let q = c.loop-block in
    let v = q.invariant in
    let turn = c.in-Some.ensures.steps in
    let cut = sym v.rest ∙ turn.1.0 in
    let size = turn.1.1 ∙ v.size in
    record {
      size = turn.0 ∙ v.size;
      rest = chunk_rest c.args.t.now q.n _ _ _ cut size;
      plain = plain_block c.args.t.now q.n _ _ _ cut size v.plain c.has_special.ensures c.if-has_special.false;
    }
