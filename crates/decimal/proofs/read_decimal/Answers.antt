use Rattle.scan.proofs.AllLaws.{all_at}
use Rattle.decimal.proofs.Turn.{the_run, run_on, least, spelt_none, spelt_more, spelt_over, spelt_all, told_none, told_over, told_number}
use Rattle.decimal.proofs.read_decimal.Goals as goal

pub returns-then-end-at : goal.returns-then-end-at
returns-then-end-at c = told_none _ _ _ _ c.run_end-end.ensures c.if-end-at.true

pub overflow_sub-end : goal.overflow_sub-end
overflow_sub-end c = run_on _ _ _ c.run_end-end.ensures

pub loop-b-init : goal.loop-b-init
loop-b-init c = spelt_none _ _

pub overflow_sub-d : goal.overflow_sub-d
overflow_sub-d c =
    least (all_at c.loop-b.b-index (the_run _ _ _ _ c.run_end-end.ensures c.part-b-items.ensures).all c.loop-b-test.true)

pub returns-then-not-fits_behind : goal.returns-then-not-fits_behind
returns-then-not-fits_behind c =
    let d = the_run _ _ _ _ c.run_end-end.ensures c.part-b-items.ensures in
    told_over _ _ _ _ _ d c.if-end-at.false (spelt_over _ _ _ _ c.loop-b-test.true c.loop-b.invariant c.fits_behind.ensures c.if-not-fits_behind.true)

pub loop-b-preserved : goal.loop-b-preserved
loop-b-preserved c = spelt_more _ _ _ _ c.loop-b-test.true c.loop-b.invariant c.fits_behind.ensures c.if-not-fits_behind.false

pub returns : goal.returns
returns c =
    let d = the_run _ _ _ _ c.run_end-end.ensures c.part-b-items.ensures in
    told_number _ _ _ _ _ _ d c.if-end-at.false (spelt_all _ _ _ _ c.loop-b-test.false c.loop-b.invariant) c.loop-b.invariant.fits
