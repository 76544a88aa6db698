-- `to_versioned` tells 1 for more than 65,535 bytes, then the reader's refusals, or writes the version byte and the
-- bytes.
-- By the laws of what can be moved.
use mathlib.Core.Path.{refl}
use Rattle.event.proofs.Handed.{handed_on}
use Rattle.versioned.proofs.Accepted.{too_long_to_move, move_refused, move_shown}
use Rattle.versioned.proofs.to_versioned.Goals as goal

pub returns-then-s-ge-MAX_INPUT : goal.returns-then-s-ge-MAX_INPUT
returns-then-s-ge-MAX_INPUT c =
    let k = too_long_to_move c.args.s.now c.if-s-ge-MAX_INPUT.true in
    record { result_value = rw k; out_after = rw k }

pub returns-in_err-read_packed : goal.returns-in_err-read_packed
returns-in_err-read_packed c =
    let k = move_refused c.args.s.now c.if-s-ge-MAX_INPUT.false c.in_err-read_packed.ensures refl in
    record { result_value = rw (handed_on _ c.from_residual.ensures, k); out_after = rw k }

pub returns : goal.returns
returns c =
    let k = move_shown c.args.s.now c.if-s-ge-MAX_INPUT.false c.in_ok-read_packed.ensures refl in
    record { result_value = rw k c.put_versioned.ensures.result_value; out_after = rw k c.put_versioned.ensures.out_after }
