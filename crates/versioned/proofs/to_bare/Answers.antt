-- `to_bare` tells the refusals of a versioned input, or writes the bytes behind its version byte.
-- By what `read_packed` told, case by case.
use mathlib.Core.Path.{refl}
use mathlib.Core.Bool.{false}
use Rattle.event.proofs.Handed.{handed_on}
use Rattle.versioned.proofs.Accepted.{accepted_refused, accepted_shown}
use Rattle.versioned.proofs.to_bare.Goals as goal

pub returns-in_err-read_packed : goal.returns-in_err-read_packed
returns-in_err-read_packed c =
    let k = accepted_refused false c.args.s.now c.in_err-read_packed.ensures refl in
    record { result_value = rw (handed_on _ c.from_residual.ensures, k); out_after = rw k }

pub returns : goal.returns
returns c =
    let k = accepted_shown false c.args.s.now c.in_ok-read_packed.ensures refl in
    record {
      result_value = rw (k, ← c.from.ensures) c.put_all.ensures.result_value;
      out_after = rw (k, ← c.from.ensures) c.put_all.ensures.out_after;
    }
