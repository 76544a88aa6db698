-- `put_escaped_part` writes a part's text escaped.
-- Raw bytes go as their hex, which needs no escape; a slice's numbers are bytes.
use native.Mathlib.Omega.{arith}
use Rattle.scan.proofs.AllLaws.{all_places}
use Rattle.notepack.proofs.Walking.{text_plain}
use Rattle.jsontags.proofs.Turns.{raw_text}
use Rattle.jsontags.proofs.put_escaped_part.Goals as goal

pub returns-then-p : goal.returns-then-p
returns-then-p c =
    let a = c.args in
    let bytes = all_places a.s.now (λ i. omega (arith, c.type_inv.s i)) in
    rw (raw_text a.k a.s.now bytes a.p c.if-p.true, ← c.part-bytes.ensures) c.put_hex.ensures

pub returns : goal.returns
returns c =
    let a = c.args in
    rw (text_plain a.s.now a.p c.if-p.false, ← c.part-bytes.ensures) c.put_escaped.ensures
