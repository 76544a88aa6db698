-- `write_string` tells why there is no start, or writes the string form of the bare bytes' event.
-- By the start, and what is told of the bare bytes, moved.
use mathlib.Core.Path.{sym}
use Rattle.event.proofs.Handed.{handed_on}
use Rattle.notepack.specs.Unpack.{unpack}
use Rattle.notepack.proofs.Telling.{unpack_tells}
use Rattle.versioned.proofs.Moving.{given_start, given_none}
use Rattle.stringform.specs.StringForm.{event_string}
use Rattle.stringform.proofs.Steps.{front_whole, tells}
use Rattle.stringform.proofs.write_string.Goals as goal

pub write_bare-requires : goal.write_bare-requires
write_bare-requires c = rw c.from.ensures (front_whole c.args.bare c.args.s.now (sym c.in_ok-k.ensures))

pub returns-in_err-k : goal.returns-in_err-k
returns-in_err-k c =
    let a = c.args in
    let k = tells (event_string a.bare) a.out.now (given_none a.bare unpack a.s.now (sym c.in_err-k.ensures)) in
    record { result_value = rw (handed_on _ c.from_residual.ensures) k.0; out_after = k.1 }

pub returns : goal.returns
returns c =
    let a = c.args in
    let k = given_start a.s.now a.bare unpack (sym c.in_ok-k.ensures) (unpack_tells _) in
    record {
      result_value = rw k (rw c.from.ensures at c.write_bare.ensures.result_value);
      out_after = rw k (rw c.from.ensures at c.write_bare.ensures.out_after);
    }
