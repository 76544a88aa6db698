-- `put_all` answers 11 with the length of the bytes, or writes them from the start.
use mathlib.Core.Path.{refl}
use Rattle.buffer.proofs.EntryLaws.{short, fitted}
use Rattle.versioned.proofs.put_all.Goals as goal

pub returns-then-out-b : goal.returns-then-out-b
returns-then-out-b c =
    let a = c.args in
    let k = short a.b.now a.out.now refl c.if-out-b.true in
    record { result_value = k.0; out_after = k.1 }

pub returns : goal.returns
returns c =
    let k = fitted refl c.if-out-b.false c.put_bytes.ensures in
    record { result_value = k.0; out_after = k.1 }
