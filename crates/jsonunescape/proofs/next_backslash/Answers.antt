-- `next_backslash` passes blocks, then fours, then byte by byte: each goes on with the same run.
-- The last counts what is left: `run_rest`.
use Rattle.std.proofs.Common.{◌∙◌, refl, sym, ap, drop, ◌+◌, ℕ, rules, arith}
use Rattle.std.proofs.lemmas.Iterator.{YieldsList-from_slice}
use Rattle.std.proofs.lemmas.Iterator.Search.{YieldsList-from_take_while}
use Rattle.std.proofs.lemmas.Iterator.Consumers.{YieldsList-at, count_from_yields_List}
use Rattle.std.proofs.lemmas.List.Folds.{length-prefix_len}
use Rattle.scan.proofs.Step.{tests, rest_whole}
use Rattle.jsonunescape.specs.inner.Run.{no_backslash}
use Rattle.jsonunescape.proofs.RunLaws.{plain_left, plain_broke, run_rest}
use Rattle.jsonunescape.proofs.next_backslash.Goals as goal

pub returns-then-t-at : goal.returns-then-t-at
returns-then-t-at c = plain_left _ _ _ refl c.if-t-at.true

pub returns-then-t-at-eq92 : goal.returns-then-t-at-eq92
returns-then-t-at-eq92 c = plain_broke _ _ _ refl (omega arith) c.if-t-at-eq92.true

pub returns : goal.returns
unfolding no_backslash
returns c =
    let t = c.args.t.now in
    let i = c.pass_fours-i.result in
    let s = drop i t in
    let road = YieldsList-at c.take_while.ensures.source (YieldsList-from_slice s (c.iter.ensures.rest ∙ rest_whole t i)) in
    ap (λ (k : ℕ). i + k)
    (count_from_yields_List c.take_while.result _ c.count.ensures.ran
    (YieldsList-from_take_while _ no_backslash road c.take_while.ensures.closure c.take_while.ensures.done (λ x b q k. search (rules, tests)))
    ∙ length-prefix_len no_backslash s)
    ∙ run_rest t i
    ∙ sym c.pass_fours-i.ensures.at_value
    ∙ sym c.pass_blocks.ensures.at_value
