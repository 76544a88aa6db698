-- `offer` tells 34 for another size; else what the offer to the slots comes to, and writes the slots back.
-- By the laws of `Laws` for each way it can end. That the slots are bytes before the offer has no other name than
-- `slice_known`: the type of a lent buffer speaks of what it holds afterwards.
use Rattle.event.proofs.Handed.{handed_on}
use Rattle.bytetable.proofs.Laws.{other_size, refuses, writes}
use Rattle.bytetable.proofs.offer.Goals as goal

pub returns-in_err-t : goal.returns-in_err-t
returns-in_err-t c =
    let a = c.args in
    let r = other_size a.slots.now a.cells.now a.packed.now c.in_err-t.ensures in
    rw (handed_on _ c.from_residual.ensures) (record { result_value = r.0; slots_after = r.1; cells_after = r.2 })

pub returns-in_err-outcome : goal.returns-in_err-outcome
returns-in_err-outcome c =
    let a = c.args in
    let o = c.in_err-outcome.ensures in
    let r = refuses a.slots.now a.cells.now a.packed.now c.in_ok-t.ensures o.result_value o.cells_after in
    rw (handed_on _ c.from_residual-in_err-outcome.ensures) (record { result_value = r.0; slots_after = r.1; cells_after = r.2 })

pub returns : goal.returns
returns c =
    let a = c.args in
    let o = c.in_ok-outcome.ensures in
    let r = writes a.slots.now a.cells.now a.packed.now c.in_ok-t.ensures (λ i. (c.slice_known-1.given i).fits) o.result_value o.slots_after o.cells_after c.put_slots.ensures in
    record { result_value = r.0; slots_after = r.1; cells_after = r.2 }
