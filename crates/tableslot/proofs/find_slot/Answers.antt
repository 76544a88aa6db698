-- `find_slot` tells the table's refusal, 19 for a slot that holds nothing, and else where its event stands.
-- By the laws of `Standing`.
use Rattle.std.proofs.Common.{◌≡◌, get_or, arith, rules, sym, ap, ◌∙◌}
use Rattle.scan.proofs.AllLaws.{all_places}
use Rattle.event.proofs.Handed.{handed_on}
use Rattle.tableread.specs.declared.Known.TheVariants.{Free}
use Rattle.tableslot.specs.inner.Answers.{known_stand}
use Rattle.tableslot.proofs.Standing.{bad_table, no_event, slot_told}
use Rattle.tableslot.proofs.find_slot.Goals as goal

pub returns-in_err-refuse_bad : goal.returns-in_err-refuse_bad
returns-in_err-refuse_bad c =
    let a = c.args in
    let cells = all_places a.cells.now (λ i. (c.type_inv.cells i).fits) in
    rw (handed_on _ c.from_residual.ensures) (bad_table a.t a.cells.now a.i (omega (arith, c.well_formed)) cells c.know_all-ks.ensures c.in_err-refuse_bad.ensures)

pub returns-in-Good : goal.returns-in-Good
returns-in-Good c =
    let a = c.args in
    let k : c.unwrap_or-k.result ≡ get_or c.know_all-ks.result a.i Free = search rules in
    let cells = all_places a.cells.now (λ i. (c.type_inv.cells i).fits) in
    ap known_stand (sym c.in-Good.is) ∙ slot_told a.t a.cells.now a.i (omega (arith, c.well_formed)) cells c.know_all-ks.ensures c.in_ok-refuse_bad.ensures k

pub returns-in-Free : goal.returns-in-Free
returns-in-Free c =
    let a = c.args in
    let k : c.unwrap_or-k.result ≡ get_or c.know_all-ks.result a.i Free = search rules in
    let cells = all_places a.cells.now (λ i. (c.type_inv.cells i).fits) in
    no_event _ c.in-Free.is ∙ slot_told a.t a.cells.now a.i (omega (arith, c.well_formed)) cells c.know_all-ks.ensures c.in_ok-refuse_bad.ensures k
