use Prim.Native.Nat.{◌+◌, ◌-◌, ◌<◌, ◌≤◌}
use mathlib.Core.Path.{◌≡◌}
use native.Mathlib.Omega.{arith}
use Rattle.varint.proofs.Turn.{held, turns, turn_start, turn_two, turn_last, turn_tenth, held_two, more_left, at_tenth}
use Rattle.varint.proofs.long_varint.Goals as goal

-- behind the first byte eight more may have the top bit

eight_left : 0 < 8
eight_left = omega arith

none_left : 0 ≤ 0
none_left = omega arith

pub returns-then-s-at : goal.returns-then-s-at
returns-then-s-at c = search turns

pub overflow_cast-first : goal.overflow_cast-first
overflow_cast-first c = omega (arith, (c.type_inv.s c.args.at).fits)

pub returns-then-first-lt128 : goal.returns-then-first-lt128
returns-then-first-lt128 c = search turns

pub returns-then-s-at-2 : goal.returns-then-s-at-2
returns-then-s-at-2 c = search (turns, eight_left, turn_start c.args.s.now c.args.at c.if-s-at.false c.if-first-lt128.false)

pub overflow_cast-second : goal.overflow_cast-second
overflow_cast-second c = omega (arith, (c.type_inv.s (c.args.at + 1)).fits)

pub returns-then-second-eq0 : goal.returns-then-second-eq0
returns-then-second-eq0 c = search (turns, eight_left, turn_start c.args.s.now c.args.at c.if-s-at.false c.if-first-lt128.false)

pub overflow_add-result-then-second-lt128 : goal.overflow_add-result-then-second-lt128
overflow_add-result-then-second-lt128 c = omega (arith, (c.type_inv.s c.args.at).fits)

pub returns-then-second-lt128 : goal.returns-then-second-lt128
returns-then-second-lt128 c =
    let g = turn_start c.args.s.now c.args.at c.if-s-at.false c.if-first-lt128.false in
    let e : c.args.at + 1 + 1 ≡ c.args.at + 2 = omega arith in
    rw e at (turn_last _ _ _ _ _ _ g eight_left c.if-s-at-2.false c.if-second-eq0.false c.if-second-lt128.true)

pub overflow_mul-value : goal.overflow_mul-value
overflow_mul-value c = omega (arith, (c.type_inv.s (c.args.at + 1)).fits)

pub overflow_add-value : goal.overflow_add-value
overflow_add-value c = omega (arith, (c.type_inv.s c.args.at).fits, (c.type_inv.s (c.args.at + 1)).fits)

pub loop-k-init : goal.loop-k-init
loop-k-init c = (turn_two _ _ c.if-s-at.false c.if-first-lt128.false c.if-s-at-2.false c.if-second-lt128.false, held_two (omega (arith, (c.type_inv.s c.args.at).fits)) (omega (arith, (c.type_inv.s (c.args.at + 1)).fits)))

pub returns-then-s-i : goal.returns-then-s-i
returns-then-s-i c = search (turns, c.loop-k.invariant.0)

pub overflow_cast-b : goal.overflow_cast-b
overflow_cast-b c = omega (arith, (c.type_inv.s (c.args.at + c.loop-k.k)).fits)

pub returns-then-b-eq0 : goal.returns-then-b-eq0
returns-then-b-eq0 c = search turns

pub overflow_mul-result-then-b-lt128 : goal.overflow_mul-result-then-b-lt128
overflow_mul-result-then-b-lt128 c = search held

pub overflow_add-result-then-b-lt128 : goal.overflow_add-result-then-b-lt128
overflow_add-result-then-b-lt128 c = search held

pub returns-then-b-lt128 : goal.returns-then-b-lt128
returns-then-b-lt128 c = turn_last _ _ _ _ _ _ c.loop-k.invariant.0 (more_left c.loop-k-test.true) c.if-s-i.false c.if-b-eq0.false c.if-b-lt128.true

pub overflow_mul-value-in-loop-k : goal.overflow_mul-value-in-loop-k
overflow_mul-value-in-loop-k c = search (held, (c.type_inv.s (c.args.at + c.loop-k.k)).fits)

pub overflow_add-value-in-loop-k : goal.overflow_add-value-in-loop-k
overflow_add-value-in-loop-k c = search (held, (c.type_inv.s (c.args.at + c.loop-k.k)).fits)

pub overflow_mul-scale : goal.overflow_mul-scale
overflow_mul-scale c = search held

pub loop-k-preserved : goal.loop-k-preserved
loop-k-preserved c =
    let q = c.loop-k in
    let n : 9 - (q.k + 1) ≡ 9 - q.k - 1 = omega arith in
    let p : c.args.at + (q.k + 1) ≡ c.args.at + q.k + 1 = omega arith in
    rw (n, p) (search turns, search (held, (c.type_inv.s (c.args.at + q.k)).fits))

pub returns-then-s-at-3 : goal.returns-then-s-at-3
returns-then-s-at-3 c =
    let t = at_tenth c.args.s.now c.args.at c.loop-k.k (omega arith) c.loop-k.invariant.0 c.loop-k.invariant.1 in
    search (turns, t.0)

pub overflow_cast-tenth : goal.overflow_cast-tenth
overflow_cast-tenth c = omega (arith, (c.type_inv.s (c.args.at + 9)).fits)

pub returns-then-tenth-eq0 : goal.returns-then-tenth-eq0
returns-then-tenth-eq0 c =
    let t = at_tenth c.args.s.now c.args.at c.loop-k.k (omega arith) c.loop-k.invariant.0 c.loop-k.invariant.1 in
    search (turns, none_left, t.0)

pub overflow_mul-result-then-tenth-le1 : goal.overflow_mul-result-then-tenth-le1
overflow_mul-result-then-tenth-le1 c =
    let t = at_tenth c.args.s.now c.args.at c.loop-k.k (omega arith) c.loop-k.invariant.0 c.loop-k.invariant.1 in
    search (held, none_left, t.1)

pub overflow_add-result-then-tenth-le1 : goal.overflow_add-result-then-tenth-le1
overflow_add-result-then-tenth-le1 c =
    let t = at_tenth c.args.s.now c.args.at c.loop-k.k (omega arith) c.loop-k.invariant.0 c.loop-k.invariant.1 in
    search (held, none_left, t.1)

pub returns-then-tenth-le1 : goal.returns-then-tenth-le1
returns-then-tenth-le1 c =
    let t = at_tenth c.args.s.now c.args.at c.loop-k.k (omega arith) c.loop-k.invariant.0 c.loop-k.invariant.1 in
    let e : c.args.at + 9 + 1 ≡ c.args.at + 10 = omega arith in
    rw e at (turn_tenth _ _ _ _ _ _ t.0 none_left c.if-s-at-3.false c.if-tenth-eq0.false c.if-tenth-le1.true)

pub returns : goal.returns
returns c =
    let t = at_tenth c.args.s.now c.args.at c.loop-k.k (omega arith) c.loop-k.invariant.0 c.loop-k.invariant.1 in
    search (turns, none_left, t.0)
