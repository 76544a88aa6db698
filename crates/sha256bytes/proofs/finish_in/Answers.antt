-- `finish_in` answers 11 with 104, 35 at 0, 11 with 32, or leaves the digest. One law for each way it can end.
use mathlib.Core.Path.{◌≡◌}
use Rattle.std.specs.Prelude.{Result, Err}
use Rattle.event.specs.declared.Refusal.{Refusal}
use Rattle.event.proofs.Handed.{handed_on}
use Rattle.sha256bytes.proofs.Entries.{finish_refused, finish_long, finish_short, finish_made}
use Rattle.sha256bytes.proofs.finish_in.Goals as goal

same_err : {A : Type 0} {r s : Refusal} → ◌≡◌ {A = Result A Refusal} (Err r) (Err s) → r ≡ s
same_err e = cc

pub returns-in_err-lent_state : goal.returns-in_err-lent_state
returns-in_err-lent_state c =
    let k = finish_refused c.args.state.now c.args.out.now c.in_err-lent_state.ensures in
    record { result_value = rw (handed_on _ c.from_residual.ensures) k.0; out_after = k.1 }

pub returns-in_err-words : goal.returns-in_err-words
returns-in_err-words c =
    let none = c.in_err-words.ensures.ok_part in
    let k = finish_long c.args.state.now c.args.out.now c.in_ok-lent_state.ensures (rw none at c.finish.ensures) in
    let e = same_err (rw none at c.in_err-words.ensures.value) in
    record { result_value = rw (handed_on _ c.from_residual-in_err-words.ensures, e) k.0; out_after = k.1 }

pub returns-then-out-lt-DIGEST : goal.returns-then-out-lt-DIGEST
returns-then-out-lt-DIGEST c =
    let some = rw c.in_ok-words.ensures.ok_part at c.finish.ensures in
    let k = finish_short c.args.state.now c.args.out.now c.in_ok-lent_state.ensures _ some c.if-out-lt-DIGEST.true in
    record { result_value = k.0; out_after = k.1 }

pub returns : goal.returns
returns c =
    let some = rw c.in_ok-words.ensures.ok_part at c.finish.ensures in
    let k = finish_made c.args.state.now c.args.out.now c.in_ok-lent_state.ensures _ some c.if-out-lt-DIGEST.false c.put_words.ensures in
    record { result_value = k.0; out_after = k.1 }
