-- `escaped_part_len` is the length of a part's text between its quotes.
-- Two digits for each raw byte, which need no escape; else the escaped length.
use mathlib.Core.Path.{ap}
use native.Mathlib.Omega.{arith}
use lib.ListN.{length}
use Rattle.scan.proofs.AllLaws.{all_places}
use Rattle.jsontags.proofs.Turns.{part_short, raw_most, plain_most, raw_length, plain_length}
use Rattle.jsontags.proofs.escaped_part_len.Goals as goal

pub returns-then-p : goal.returns-then-p
returns-then-p c =
    let a = c.args in
    let e = ap length c.part-bytes.ensures in
    let bytes = all_places a.s.now (λ i. omega (arith, c.type_inv.s i)) in
    let n = raw_length a.k a.s.now bytes a.p c.if-p.true in
    record {
      value = omega (arith, e, n);
      upper_bound = raw_most a.k (length c.part-bytes.result.now) (length a.s.now) (omega (arith, e, part_short a.s.now a.p));
    }

pub returns : goal.returns
returns c =
    let a = c.args in
    let part = c.part-bytes.ensures in
    let n = plain_length a.k a.s.now a.p c.if-p.false in
    let m = rw part at c.escaped_len.ensures.value in
    record {
      value = omega (arith, n, m);
      upper_bound = plain_most a.k _ (length c.part-bytes.result.now) (length a.s.now) c.escaped_len.ensures.upper_bound (omega (arith, ap length part, part_short a.s.now a.p));
    }
