-- `some_holds` asks each slot by `any`.
use Rattle.std.proofs.Common.{rules, ◌∙◌}
use Rattle.std.proofs.lemmas.Iterator.{YieldsList-from_slice}
use Rattle.std.proofs.lemmas.Iterator.Search.{any_from_yields_List}
use Rattle.tableread.specs.inner.Known.{holds_name}
use Rattle.tableread.proofs.Passes.{some_any}
use Rattle.tableread.proofs.some_holds.Goals as goal

pub returns : goal.returns
returns c =
    let a = c.args in
    any_from_yields_List (holds_name a.cells.now a.s.now a.key a.print) _ _ _ c.any.ensures.ran (YieldsList-from_slice a.ks.now cc) (λ x b q k. search rules)
    ∙ some_any a.cells.now a.s.now a.key a.print a.ks.now
