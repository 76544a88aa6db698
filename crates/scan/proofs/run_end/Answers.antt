-- `run_end` counts the bytes from the place on that are within the bounds: `run_counted`.
use Rattle.std.proofs.Common.{◌≡◌, ◌∙◌, ap, drop, ◌+◌, ℕ, rules}
use Rattle.std.proofs.lemmas.Iterator.{YieldsList-from_slice}
use Rattle.std.proofs.lemmas.Iterator.Search.{YieldsList-from_take_while}
use Rattle.std.proofs.lemmas.Iterator.Consumers.{YieldsList-at, count_from_yields_List}
use Rattle.std.proofs.lemmas.List.Folds.{length-prefix_len}
use Rattle.std.specs.List.{prefix_len}
use borrow.Author.Tests.{tests}
use Rattle.scan.specs.Place.{within, run_at}
use Rattle.scan.proofs.Step.{rest_min, rest_whole}
use Rattle.scan.proofs.PlaceLaws.{run_counted}
use Rattle.scan.proofs.run_end.Goals as goal

pub returns : goal.returns
unfolding run_at
returns c =
    let a = c.args in
    let p = within a.low a.high in
    let s = drop c.min.result a.s.now in
    let road = YieldsList-at c.take_while.ensures.source (YieldsList-from_slice s (c.iter.ensures.rest ∙ rest_whole a.s.now c.min.result)) in
    let same : s ≡ drop a.at a.s.now = ap (λ (k : ℕ). drop k a.s.now) c.min.ensures ∙ rest_min a.s.now a.at in
    ap (λ (k : ℕ). a.at + k)
    (count_from_yields_List c.take_while.result _ c.count.ensures.ran
    (YieldsList-from_take_while _ p road c.take_while.ensures.closure c.take_while.ensures.done (λ x b q k. search (rules, tests)))
    ∙ length-prefix_len p s
    ∙ ap (prefix_len p) same)
    ∙ run_counted p (drop a.at a.s.now) a.at
