-- `plain_count` counts with an iterator: `before_counted`.
use Rattle.std.proofs.Common.{◌∙◌, ℕ, not, rules}
use Rattle.std.proofs.lemmas.Iterator.{YieldsList-from_slice}
use Rattle.std.proofs.lemmas.Iterator.Search.{YieldsList-from_take_while}
use Rattle.std.proofs.lemmas.Iterator.Consumers.{YieldsList-at, count_from_yields_List}
use Rattle.std.proofs.lemmas.List.Folds.{length-prefix_len}
use Rattle.jsonstring.specs.inner.Plain.{is_special}
use Rattle.jsonstring.proofs.PlainLaws.{before_counted}
use Rattle.jsonstring.proofs.plain_count.Goals as goal

pub returns : goal.returns
returns c =
    let t = c.args.t.now in
    let plain = λ (b : ℕ). not (is_special b) in
    let road = YieldsList-at c.take_while.ensures.source (YieldsList-from_slice t c.iter.ensures.rest) in
    count_from_yields_List c.take_while.result _ c.count.ensures.ran
    (YieldsList-from_take_while _ plain road c.take_while.ensures.closure c.take_while.ensures.done (λ x b q k. search rules))
    ∙ length-prefix_len plain t
    ∙ before_counted t
