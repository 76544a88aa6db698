-- `start_in` answers 11 with 104, or leaves the state before the first piece. The laws of an entry that measured.
use Rattle.buffer.proofs.EntryLaws.{short}
use Rattle.sha256bytes.proofs.Entries.{started_long, started_made}
use Rattle.sha256bytes.proofs.start_in.Goals as goal

pub returns-then-state-lt-STATE : goal.returns-then-state-lt-STATE
returns-then-state-lt-STATE c =
    let k = short _ c.args.state.now started_long c.if-state-lt-STATE.true in
    record { result_value = k.0; state_after = k.1 }

pub returns : goal.returns
returns c =
    let k = started_made c.start.ensures c.if-state-lt-STATE.false c.put_state.ensures in
    record { result_value = k.0; state_after = k.1 }
