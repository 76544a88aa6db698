-- `add_in` answers 11 with 104, 35 at 0, or leaves the state with the piece. One law for each way it can end.
use mathlib.Core.Path.{sym}
use Rattle.sha256bytes.proofs.Entries.{few, lent, add_refused, add_long, add_made}
use Rattle.sha256bytes.proofs.add_in.Goals as goal

pub returns-then-state-lt-STATE : goal.returns-then-state-lt-STATE
returns-then-state-lt-STATE c =
    let a = c.args in
    let k = add_refused a.state.now a.piece.now (few a.state.now c.if-state-lt-STATE.true) in
    record { result_value = k.0; state_after = k.1 }

pub returns-then-is_too_long : goal.returns-then-is_too_long
returns-then-is_too_long c =
    let a = c.args in
    let s = sym (lent a.state.now c.if-state-lt-STATE.false c.state_of-s.ensures) in
    let k = add_long a.state.now a.piece.now s c.is_too_long.ensures c.if-is_too_long.true in
    record { result_value = k.0; state_after = k.1 }

pub returns : goal.returns
returns c =
    let a = c.args in
    let s = sym (lent a.state.now c.if-state-lt-STATE.false c.state_of-s.ensures) in
    let k = add_made a.state.now a.piece.now s c.is_too_long.ensures c.if-is_too_long.false c.add.ensures c.put_state.ensures in
    record { result_value = k.0; state_after = k.1 }
