use native.Mathlib.Omega.{arith}
use Rattle.jsonunescape.proofs.ShortLaws.{pairs_inside, pairs_again, pairs_odd, pairs_rest}
use Rattle.jsonunescape.proofs.even_pairs.Goals as goal

pub loop-block-preserved : goal.loop-block-preserved
loop-block-preserved c =
    let q = c.loop-block in
    let k = c.in-Some.ensures.cases in
    let n = c.odd_pairs.ensures in (
      omega (arith, pairs_inside _ q.i q.invariant.1 _ k.enough k.same n),
      pairs_again _ q.i q.invariant.1 _ k.enough k.same n c.if-odd_pairs-ne0.false,
    )

pub returns-then-odd_pairs-ne0 : goal.returns-then-odd_pairs-ne0
returns-then-odd_pairs-ne0 c =
    let q = c.loop-block in
    let k = c.in-Some.ensures.cases in
    pairs_odd _ q.i q.invariant.1 _ k.enough k.same c.odd_pairs.ensures c.if-odd_pairs-ne0.true

-- the last is a block up to the end
pub returns : goal.returns
returns c = let q = c.loop-block in pairs_rest _ q.i q.invariant.1 c.odd_pairs-2.ensures
