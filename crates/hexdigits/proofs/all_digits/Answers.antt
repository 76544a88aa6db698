use Rattle.std.proofs.Common.{sym, ◌∙◌}
use Rattle.hexdigits.proofs.BlockLaws.{digits_more, digits_end}
use Rattle.hexdigits.proofs.all_digits.Goals as goal

pub returns-then-others-ne0 : goal.returns-then-others-ne0
returns-then-others-ne0 c =
    let k = c.in-Some.ensures.cases in
    sym (c.loop-block.invariant ∙ digits_end _ 128 k.0 k.1 (λ e. c.if-others-ne0.true (c.others.ensures ∙ e)))

pub loop-block-preserved : goal.loop-block-preserved
loop-block-preserved c =
    let k = c.in-Some.ensures.cases in
    c.loop-block.invariant ∙ digits_more _ 128 k.0 k.1 (sym c.others.ensures ∙ c.if-others-ne0.false)
