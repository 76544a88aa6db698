use Prim.Native.Nat.{◌+◌}
use native.Mathlib.Nat.{add-zero, add_assoc}
use native.Mathlib.Omega.{arith}
use Rattle.scan.proofs.PlaceLaws.{stands_start, stands_again, stands_other, stands_whole, stands_short}
use Rattle.scan.proofs.stands_at.Goals as goal

pub returns-then-rest-w : goal.returns-then-rest-w
returns-then-rest-w c = stands_short _ _ _ (omega (arith, c.rest.ensures))

pub loop-j-init : goal.loop-j-init
loop-j-init c = let a = c.args in (omega (arith, c.rest.ensures), rw add-zero (stands_start a.w.now a.s.now a.at))

pub returns-then-b-s : goal.returns-then-b-s
returns-then-b-s c =
    let q = c.loop-j in
    let a = c.args in
    stands_other a.w.now a.s.now a.at (a.at + q.j) q.j q.invariant.1 c.loop-j-test.true (omega arith) c.if-b-s.true

pub loop-j-preserved : goal.loop-j-preserved
loop-j-preserved c =
    let q = c.loop-j in
    let a = c.args in
    let next = stands_again a.w.now a.s.now a.at (a.at + q.j) q.j q.invariant.1 c.loop-j-test.true (omega arith) c.if-b-s.false in
    (q.invariant.0, rw add_assoc at next)

pub returns : goal.returns
returns c =
    let q = c.loop-j in
    stands_whole _ _ _ (c.args.at + q.j) q.j q.invariant.1 c.loop-j-test.false
