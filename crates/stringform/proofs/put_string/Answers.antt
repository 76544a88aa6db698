-- `put_string` answers 11 with the length of the string form, or writes the prefix and the encoding.
use mathlib.Core.Path.{ap}
use native.Mathlib.Omega.{arith}
use lib.ListN.{length}
use Rattle.buffer.proofs.Laws.{then}
use Rattle.buffer.proofs.EntryLaws.{short, fitted}
use Rattle.base64text.proofs.Texts.{length_encoded}
use Rattle.stringform.specs.StringForm.{string_form}
use Rattle.stringform.proofs.Steps.{length_string}
use Rattle.stringform.proofs.put_string.Goals as goal

pub overflow_add-n : goal.overflow_add-n
overflow_add-n c = omega (arith, c.encoded_len.ensures, c.prefix.ensures.upper_bound, length_encoded c.args.b.now)

pub returns-then-out-n : goal.returns-then-out-n
returns-then-out-n c =
    let a = c.args in
    let k = short (string_form a.bare a.b.now) a.out.now (length_string a.bare a.b.now (ap length c.prefix.ensures.value) c.encoded_len.ensures) c.if-out-n.true in
    record { result_value = k.0; out_after = k.1 }

pub returns : goal.returns
unfolding string_form
returns c =
    let a = c.args in
    let n = length_string a.bare a.b.now (ap length c.prefix.ensures.value) c.encoded_len.ensures in
    let k = fitted {text = string_form a.bare a.b.now} n c.if-out-n.false (then c.put_prefix-o.ensures c.put_encoded.ensures) in
    record { result_value = k.0; out_after = k.1 }
