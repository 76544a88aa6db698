use Rattle.std.proofs.Common.{arith}
use Rattle.scan.proofs.BlockLaws.{neighbours_again, neighbours_left}
use Rattle.jsonstring.specs.inner.Loose.{clash_of}
use Rattle.nsonstring.specs.inner.Simple.{slash_of, high_of}
use Rattle.nsonstring.proofs.look_at.Goals as goal

pub loop-i-preserved : goal.loop-i-preserved
unfolding slash_of high_of
loop-i-preserved c =
    let q = c.loop-i in
    let v = q.invariant in
    let s = c.args.block.now in
    let b = c.type_inv.block q.i in
    record {
      clashes_fit = omega arith;
      slashes_fit = omega arith;
      high_fit = omega (arith, b);
      clashes = rw c.clash-clashes.ensures.value (neighbours_again clash_of s q.i q.clashes _ (omega arith) v.clashes (omega arith));
      slashes = rw c.is_one-slashes.ensures.value (neighbours_again slash_of s q.i q.slashes _ (omega arith) v.slashes (omega arith));
      high = neighbours_again high_of s q.i q.high _ (omega arith) v.high (omega arith);
    }

pub returns-clause-clashes_value : goal.returns-clause-clashes_value
returns-clause-clashes_value c = let q = c.loop-i in neighbours_left clash_of c.args.block.now q.i _ _ (omega arith) q.invariant.clashes (omega arith)

pub returns-clause-slashes_value : goal.returns-clause-slashes_value
returns-clause-slashes_value c = let q = c.loop-i in neighbours_left slash_of c.args.block.now q.i _ _ (omega arith) q.invariant.slashes (omega arith)

pub returns-clause-high_value : goal.returns-clause-high_value
returns-clause-high_value c = let q = c.loop-i in neighbours_left high_of c.args.block.now q.i _ _ (omega arith) q.invariant.high (omega arith)
