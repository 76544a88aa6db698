-- `write_nson` answers as rules 6 and 12.1 say: the reader's refusal, 17, 11 with the length needed, or the length
-- written; and leaves the buffer so.
-- By the laws of the entry for each outcome of the walk and of the measure.
use mathlib.Core.Path.{refl}
use Rattle.scan.proofs.AllLaws.{all_places}
use Rattle.event.proofs.Handed.{handed_on}
use Rattle.notepack.proofs.Again.{accepted}
use Rattle.nsonwrite.proofs.Entry.{write_refused, write_misfit, write_short, write_fitted}
use Rattle.nsonwrite.proofs.write_nson.Goals as goal

pub measure-requires : goal.measure-requires
measure-requires c =
    let a = c.args in
    let g = accepted a.s.now (all_places a.s.now (λ i. (c.type_inv.s i).fits)) _ _ c.in_ok-h.ensures refl in
    g.sound.valid

pub returns-in_err-h : goal.returns-in_err-h
returns-in_err-h c =
    let a = c.args in
    let r = write_refused a.s.now a.out.now _ _ _ c.in_err-h.ensures refl in
    rw (handed_on _ c.from_residual.ensures) (record { result_value = r.0; out_after = r.1 })

pub returns-in_default : goal.returns-in_default
returns-in_default c =
    let a = c.args in
    let g = accepted a.s.now (all_places a.s.now (λ i. (c.type_inv.s i).fits)) _ _ c.in_ok-h.ensures refl in
    let r = write_misfit a.s.now a.out.now g.shows c.in_default.ensures in
    record { result_value = r.0; out_after = r.1 }

pub returns-then-out-m : goal.returns-then-out-m
returns-then-out-m c =
    let a = c.args in
    let g = accepted a.s.now (all_places a.s.now (λ i. (c.type_inv.s i).fits)) _ _ c.in_ok-h.ensures refl in
    let r = write_short a.s.now a.out.now g.shows c.in-Some.ensures c.if-out-m.true in
    record { result_value = r.0; out_after = r.1 }

pub returns : goal.returns
returns c =
    let a = c.args in
    let g = accepted a.s.now (all_places a.s.now (λ i. (c.type_inv.s i).fits)) _ _ c.in_ok-h.ensures refl in
    let r = write_fitted a.s.now a.out.now g.shows c.in-Some.ensures c.if-out-m.false c.put_nson.ensures in
    record { result_value = r.0; out_after = r.1 }
