-- `first_outside` counts the bytes from the place on that are of the alphabet: `run_counted`.
use Rattle.std.proofs.Common.{◌∙◌, ap, drop, ◌+◌, ℕ, rules}
use Rattle.std.proofs.lemmas.Iterator.{YieldsList-from_slice}
use Rattle.std.proofs.lemmas.Iterator.Search.{YieldsList-from_take_while}
use Rattle.std.proofs.lemmas.Iterator.Consumers.{YieldsList-at, count_from_yields_List}
use Rattle.std.proofs.lemmas.List.Folds.{length-prefix_len}
use borrow.Author.Tests.{tests}
use Rattle.scan.specs.Place.{run_at}
use Rattle.scan.proofs.Step.{rest_whole}
use Rattle.scan.proofs.PlaceLaws.{run_counted}
use Rattle.base64text.specs.Base64.{in_alphabet}
use Rattle.base64text.proofs.Alphabet.{inside_zero}
use Rattle.base64text.proofs.first_outside.Goals as goal

pub returns : goal.returns
unfolding run_at
returns c =
    let a = c.args in
    let s = drop a.at a.t.now in
    let road = YieldsList-at c.take_while.ensures.source (YieldsList-from_slice s (c.iter.ensures.rest ∙ rest_whole a.t.now a.at)) in
    ap (λ (k : ℕ). a.at + k)
    (count_from_yields_List c.take_while.result _ c.count.ensures.ran
    (YieldsList-from_take_while _ in_alphabet road c.take_while.ensures.closure c.take_while.ensures.done (λ x b q k. search (rules, tests, inside_zero)))
    ∙ length-prefix_len in_alphabet s)
    ∙ run_counted in_alphabet s a.at
