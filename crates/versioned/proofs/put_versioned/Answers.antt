-- `put_versioned` answers 11 with the length of the versioned form, or writes the version byte and the bytes.
use native.Mathlib.Omega.{arith}
use Rattle.buffer.proofs.Laws.{then}
use Rattle.buffer.proofs.EntryLaws.{short, fitted}
use Rattle.versioned.specs.Moves.{with_version}
use Rattle.versioned.proofs.put_versioned.Goals as goal

pub returns-then-out-n : goal.returns-then-out-n
returns-then-out-n c =
    let a = c.args in
    let k = short (with_version a.b.now) a.out.now (omega arith) c.if-out-n.true in
    record { result_value = k.0; out_after = k.1 }

pub returns : goal.returns
returns c =
    let k = fitted {text = with_version c.args.b.now} (omega arith) c.if-out-n.false (then c.put_byte-o.ensures c.put_bytes.ensures) in
    record { result_value = k.0; out_after = k.1 }
