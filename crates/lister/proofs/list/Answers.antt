-- `list` writes what is printed of packed bytes, whole: their numbers, or the refusal.
-- By what the reader told, case by case; either text has room.
use native.Mathlib.Omega.{arith}
use Rattle.scan.proofs.AllLaws.{all_places}
use Rattle.lister.proofs.Fitting.{lists_numbers, lists_refusal}
use Rattle.lister.proofs.list.Goals as goal

pub returns-in-Ok : goal.returns-in-Ok
returns-in-Ok c =
    let bytes = all_places c.args.s.now (λ i. (c.type_inv.s i).fits) in
    let p = lists_numbers bytes (omega (arith, c.well_formed)) c.requires c.in-Ok.ensures c.put_numbers.ensures in
    record { value = p.0; out_after = p.1 }

pub returns-in-Err : goal.returns-in-Err
returns-in-Err c =
    let bytes = all_places c.args.s.now (λ i. (c.type_inv.s i).fits) in
    let p = lists_refusal bytes (omega (arith, c.well_formed)) c.requires c.in-Err.ensures c.put_refusal.ensures in
    record { value = p.0; out_after = p.1 }
