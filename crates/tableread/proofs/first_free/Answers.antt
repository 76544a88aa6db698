-- `first_free` asks for the first slot that is free, by `position`.
use Rattle.std.proofs.Common.{rules, ◌∙◌}
use Rattle.std.proofs.lemmas.Iterator.{YieldsList-from_slice}
use Rattle.std.proofs.lemmas.Iterator.Search.{position_from_yields_List}
use Rattle.tableread.proofs.Passes.{is_free, free_first}
use Rattle.tableread.proofs.first_free.Goals as goal

pub returns : goal.returns
returns c = position_from_yields_List is_free _ _ _ c.position.ensures.ran (YieldsList-from_slice c.args.ks.now cc) (λ x b q k. search rules) ∙ free_first c.args.ks.now
