use mathlib.Core.Path.{◌≡◌, sym, ◌∙◌}
use native.Mathlib.Omega.{arith}
use Rattle.jsonread.proofs.Copying.{counting_start, counting_stop, counting_last, counting_again, counting_all}
use Rattle.jsonread.proofs.count_texts.Goals as goal

pub loop-count-init : goal.loop-count-init
loop-count-init c = counting_start _ _

pub returns-then-end-eq0 : goal.returns-then-end-eq0
returns-then-end-eq0 c = counting_stop _ c.loop-count.invariant c.text_end-end.ensures c.loop-count-test.true c.if-end-eq0.true

pub returns-then-byte_at-ne44 : goal.returns-then-byte_at-ne44
returns-then-byte_at-ne44 c =
    counting_last _ c.loop-count.invariant c.text_end-end.ensures c.loop-count-test.true c.if-end-eq0.false
    c.skip_space-p.ensures c.byte_at.ensures c.if-byte_at-ne44.true

pub loop-count-preserved : goal.loop-count-preserved
loop-count-preserved c =
    counting_again _ c.loop-count.invariant c.text_end-end.ensures c.loop-count-test.true c.if-end-eq0.false
    c.skip_space-p.ensures c.byte_at.ensures c.if-byte_at-ne44.false c.behind-i.ensures

pub returns : goal.returns
returns c =
    let q = c.loop-count in
    let all : q.count ≡ 255 = omega (arith, q.invariant.few) in
    sym all ∙ counting_all _ q.invariant c.loop-count-test.false
