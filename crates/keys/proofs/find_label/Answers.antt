use Rattle.std.proofs.Common.{◌≡◌, ◌+◌, ◌-◌, refl, sym, ◌∙◌, arith}
use Rattle.std.proofs.Math.Nat.{sub-zero}
use Rattle.keys.proofs.Loops.{label_turn, label_none}
use Rattle.keys.proofs.find_label.Goals as goal

pub loop-init : goal.loop-init
loop-init c = rw sub-zero refl

pub returns-then-is_d : goal.returns-then-is_d
returns-then-is_d c =
    let q = c.loop in
    let turn = q.invariant ∙ label_turn c.args.s.now (c.args.count - q.counter) q.i (omega arith) in
    let n = c.count_again-n.ensures in
    let p = c.part_again-second.ensures in
    sym (turn ∙ rw (← n.count_value, ← n.next_value, ← p.part_value, ← p.next_value, ← c.is_d.ensures, c.if-is_d.true) (sym c.second_text.ensures))

pub loop-preserved : goal.loop-preserved
loop-preserved c =
    let q = c.loop in
    let turn = q.invariant ∙ label_turn c.args.s.now (c.args.count - q.counter) q.i (omega arith) in
    let n = c.count_again-n.ensures in
    let p = c.part_again-second.ensures in
    let one : c.args.count - (q.counter + 1) ≡ c.args.count - q.counter - 1 = omega arith in
    turn ∙ rw (← n.count_value, ← n.next_value, ← p.part_value, ← c.is_d.ensures, c.if-is_d.false, ← c.texts_end-i.ensures, one)

pub returns : goal.returns
returns c = let q = c.loop in sym (q.invariant ∙ label_none c.args.s.now (c.args.count - q.counter) q.i (omega arith))
