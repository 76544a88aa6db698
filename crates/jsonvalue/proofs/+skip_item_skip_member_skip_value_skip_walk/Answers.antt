use native.Mathlib.Omega.{arith}
use Rattle.event.proofs.Handed.{handed_on}
use Rattle.jsonvalue.proofs.Walk.{walk_refused, walk_closed, walk_other, walk_again, walk_less, walks}
use Rattle.jsonvalue.proofs.+skip_item_skip_member_skip_value_skip_walk.Goals as goal

pub skip_walk-loop-next-init : goal.skip_walk-loop-next-init
skip_walk-loop-next-init t c = (search walks, omega arith)

pub skip_walk-returns-in_err-next : goal.skip_walk-returns-in_err-next
skip_walk-returns-in_err-next t c =
    let a = c.args in
    rw (handed_on _ c.from_residual.ensures) (walk_refused a.s.now a.depth a.close a.at _ c.loop-next.invariant.0 c.in_err-next.ensures)

pub skip_walk-returns-then-b-close : goal.skip_walk-returns-then-b-close
skip_walk-returns-then-b-close t c =
    let a = c.args in
    walk_closed a.s.now a.depth a.close a.at _ _ _ c.loop-next.invariant.0 c.in_ok-next.ensures c.skip_space-p.ensures _ c.byte_at-b.ensures
    c.if-b-close.true

pub skip_walk-returns-then-b-ne44 : goal.skip_walk-returns-then-b-ne44
skip_walk-returns-then-b-ne44 t c =
    let a = c.args in
    rw c.not_allowed.ensures (walk_other a.s.now a.depth a.close a.at _ _ _ c.loop-next.invariant.0 c.in_ok-next.ensures c.skip_space-p.ensures _ c.byte_at-b.ensures
    c.if-b-close.false c.if-b-ne44.true)

pub skip_walk-loop-next-smaller : goal.skip_walk-loop-next-smaller
skip_walk-loop-next-smaller t c =
    let a = c.args in
    walk_less a.s.now a.depth a.close a.at _ _ _ c.loop-next.invariant.0 c.in_ok-next.ensures c.skip_space-p.ensures _ c.byte_at-b.ensures
    _ c.if-b-ne44.false c.skip_space-i-in-loop-next.ensures

pub skip_walk-loop-next-preserved : goal.skip_walk-loop-next-preserved
skip_walk-loop-next-preserved t c =
    let a = c.args in
    let turn = walk_again a.s.now a.depth a.close a.at _ _ _ c.loop-next.invariant.0 c.in_ok-next.ensures c.skip_space-p.ensures _ c.byte_at-b.ensures
    _ c.if-b-close.false c.if-b-ne44.false c.skip_space-i-in-loop-next.ensures in
    (turn, omega arith)
