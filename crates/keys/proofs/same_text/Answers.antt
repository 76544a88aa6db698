-- `same_text` compares two parts as texts, whichever way each is stored.
-- By `same_texts`, at each way; a slice's numbers are bytes.
use Rattle.std.proofs.Common.{sym, ◌∙◌}
use Rattle.scan.proofs.AllLaws.{all_places}
use Rattle.keys.proofs.Loops.{same_texts}
use Rattle.keys.proofs.same_text.Goals as goal

pub returns-then-p-q : goal.returns-then-p-q
returns-then-p-q c =
    let x = c.args in
    let ways = same_texts x.s.now x.t.now x.p x.q (all_places x.s.now (λ i. (c.type_inv.s i).fits)) (all_places x.t.now (λ i. (c.type_inv.t i).fits)) in
    sym (ways ∙ rw (c.if-p-q.true, ← c.part-a.ensures, ← c.part-b.ensures) (sym c.same_bytes.ensures))

pub returns-then-p : goal.returns-then-p
returns-then-p c =
    let x = c.args in
    let ways = same_texts x.s.now x.t.now x.p x.q (all_places x.s.now (λ i. (c.type_inv.s i).fits)) (all_places x.t.now (λ i. (c.type_inv.t i).fits)) in
    sym (ways ∙ rw (c.if-p-q.false, c.if-p.true, ← c.part-a.ensures, ← c.part-b.ensures) (sym c.is_hex_of.ensures))

pub returns-else-p : goal.returns-else-p
returns-else-p c =
    let x = c.args in
    let ways = same_texts x.s.now x.t.now x.p x.q (all_places x.s.now (λ i. (c.type_inv.s i).fits)) (all_places x.t.now (λ i. (c.type_inv.t i).fits)) in
    sym (ways ∙ rw (c.if-p-q.false, c.if-p.false, ← c.part-a.ensures, ← c.part-b.ensures) (sym c.is_hex_of-else-p.ensures))
