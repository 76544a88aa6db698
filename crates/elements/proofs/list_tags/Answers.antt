use Prim.Native.Nat.{◌+◌, ◌-◌}
use mathlib.Core.Path.{◌≡◌}
use native.Mathlib.Omega.{arith}
use Rattle.std.proofs.Math.Nat.{sub-zero}
use Rattle.buffer.proofs.Laws.{start, part, done, also, same}
use Rattle.elements.proofs.Again.{list_turn, list_left}
use Rattle.elements.proofs.list_tags.Goals as goal

pub loop-tag-init : goal.loop-tag-init
loop-tag-init c = rw sub-zero start

pub shape_of-out-then-listing-eq0 : goal.shape_of-out-then-listing-eq0
shape_of-out-then-listing-eq0 c = same c.loop-tag.invariant

pub returns-then-listing-eq0 : goal.returns-then-listing-eq0
returns-then-listing-eq0 c = done (also (rw c.if-listing-eq0.true) c.loop-tag.invariant)

pub loop-tag-preserved : goal.loop-tag-preserved
loop-tag-preserved c =
    let listed = c.list_tag-listing.ensures in
    let read = c.count_again-n.ensures in
    let q = c.loop-tag in
    let g = q.listing in
    let e = list_turn c.args.s.now g.room g.skip (c.args.count - q.tag) q.tag g.next (omega arith) read.count_value read.next_value listed.next_value listed.skip_value listed.room_value in
    let one : c.args.count - (q.tag + 1) ≡ c.args.count - q.tag - 1 = omega arith in
    rw one (part (also e q.invariant) listed.wrote)

pub shape_of-out : goal.shape_of-out
shape_of-out c = same c.loop-tag.invariant

pub returns : goal.returns
returns c =
    let q = c.loop-tag in
    let g = q.listing in
    done (also (list_left c.args.s.now g.room g.skip (c.args.count - q.tag) q.tag g.next (omega arith)) q.invariant)
