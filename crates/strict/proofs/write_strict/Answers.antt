-- `write_strict` answers as rules 3 and 12.1 say: the reader's refusal, 11 with the length needed, or the length
-- written; and leaves the buffer so.
-- By the laws of the entry for each outcome of the walk; a slice's numbers are bytes.
use mathlib.Core.Path.{refl}
use Rattle.scan.proofs.AllLaws.{all_places}
use Rattle.event.proofs.Handed.{handed_on}
use Rattle.notepack.proofs.Again.{accepted}
use Rattle.strict.proofs.Laws.{refusal_told, write_short, write_fitted}
use Rattle.strict.proofs.write_strict.Goals as goal

pub returns-in_err-h : goal.returns-in_err-h
returns-in_err-h c =
    let f = refusal_told c.args.s.now c.args.out.now _ _ c.in_err-h.ensures in
    record { result_value = rw (handed_on _ c.from_residual.ensures) f.0; out_after = f.1 }

pub returns-then-out-t : goal.returns-then-out-t
returns-then-out-t c =
    let s = c.args.s.now in
    let g = accepted s (all_places s (λ i. (c.type_inv.s i).fits)) _ _ c.in_ok-h.ensures refl in
    let f = write_short s _ g c.args.out.now c.if-out-t.true in
    record { result_value = f.0; out_after = f.1 }

pub returns : goal.returns
returns c =
    let s = c.args.s.now in
    let g = accepted s (all_places s (λ i. (c.type_inv.s i).fits)) _ _ c.in_ok-h.ensures refl in
    let f = write_fitted s _ g c.args.out.now c.if-out-t.false c.copy_packed.ensures in
    record { result_value = f.0; out_after = f.1 }
