-- `decide` tells the table's refusal, and else what the offer to a good table comes to.
-- By the laws of `Whole` for each way it can end. That the cells are bytes before the offer has no other name than
-- `slice_known`: the type of a lent buffer speaks of what it holds afterwards.
use Rattle.std.proofs.Common.{arith}
use Rattle.scan.proofs.AllLaws.{all_places}
use Rattle.event.proofs.Handed.{handed_on}
use Rattle.tableoffer.proofs.Whole.{bad_table, good_table}
use Rattle.tableoffer.proofs.decide.Goals as goal

pub returns-in_err-refuse_bad : goal.returns-in_err-refuse_bad
returns-in_err-refuse_bad c =
    let a = c.args in
    let cells = all_places a.cells.now (λ i. (c.slice_known-1.given i).fits) in
    let p = bad_table a.t.now a.cells.now a.packed.now (omega (arith, c.well_formed)) cells c.know_all-ks.ensures c.in_err-refuse_bad.ensures in
    rw (handed_on _ c.from_residual.ensures) (record { value = p.0; cells_after = p.1 })

pub returns : goal.returns
returns c =
    let a = c.args in
    let d = c.decide_good.ensures in
    let cells = all_places a.cells.now (λ i. (c.slice_known-1.given i).fits) in
    let packed = all_places a.packed.now (λ i. (c.type_inv.packed i).fits) in
    let p = good_table a.t.now a.cells.now a.packed.now (omega (arith, c.well_formed)) cells c.know_all-ks.ensures packed c.in_ok-refuse_bad.ensures (d.value, d.cells_after) in
    record { value = p.0; cells_after = p.1 }
