use Rattle.std.proofs.Common.{arith, ◌+◌, ◌≤◌, ◌∙◌, length, length-set}
use Rattle.buffer.proofs.Laws.{also, full, kept}
use Rattle.buffer.proofs.OverLaws.{two_bytes}
use Rattle.scan.proofs.Step.{rest_whole}
use Rattle.escape.proofs.BlockLaws.{run_written, run_letter}
use Rattle.escape.proofs.put_escaped.Goals as goal

pub returns-then-out-at : goal.returns-then-out-at
returns-then-out-at c = full c.if-out-at.true

-- a block that is all run
pub loop-rest-preserved-then-m-eq64 : goal.loop-rest-preserved-then-m-eq64
loop-rest-preserved-then-m-eq64 c =
    let q = c.loop-rest in
    let k = c.args.k in
    let s = q.rest.now in
    let block = c.split_at.ensures.front in
    let w = rw block at c.put_bytes.ensures in
    let is = rw block at c.bare_run-m.ensures.value in
    let l = run_written k s 64 c.bare_run-m.result (omega arith) is q.invariant.left w (omega arith) in
    record {
      place = omega (arith, kept w);
      same = kept w ∙ q.invariant.same;
      left = rw (c.split_at.ensures.back, c.if-m-eq64.true) (rw c.if-m-eq64.true at l);
    }

-- a block with an escape
pub loop-rest-preserved : goal.loop-rest-preserved
loop-rest-preserved c =
    let q = c.loop-rest in
    let k = c.args.k in
    let s = q.rest.now in
    let m = c.bare_run-m.result in
    let block = c.split_at.ensures.front in
    let w = rw block at c.put_bytes.ensures in
    let is = rw block at c.bare_run-m.ensures.value in
    let fits : 64 ≤ length s = omega arith in
    let l = run_written k s 64 m fits is q.invariant.left w (omega arith) in
    let e = run_letter k s 64 m fits is c.if-m-eq64.false in
    record {
      place = simp length-set (omega (arith, kept w));
      same = simp length-set (kept w ∙ q.invariant.same);
      left = rw (rest_whole s (m + 1), c.escape_letter.ensures) (two_bytes (omega (arith, kept w)) (also e l));
    }
