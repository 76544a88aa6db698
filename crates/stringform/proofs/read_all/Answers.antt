-- `read_all` reads what the text holds through a scratch that has room, and tells 1 where it is too long.
use native.Mathlib.Omega.{arith}
use Rattle.versioned.proofs.Accepted.{accepted_long}
use Rattle.base64text.specs.Base64.{decoded}
use Rattle.stringform.specs.StringForm.{itself}
use Rattle.stringform.proofs.Steps.{tells}
use Rattle.stringform.proofs.read_all.Goals as goal

pub returns-else-n-le-MAX_INPUT : goal.returns-else-n-le-MAX_INPUT
returns-else-n-le-MAX_INPUT c =
    let a = c.args in
    let k = tells itself a.out.now (accepted_long a.bare (decoded a.text.now) (omega (arith, c.decoded_len-n.ensures, c.if-n-le-MAX_INPUT.false))) in
    record { result_value = k.0; out_after = k.1 }
