use Rattle.std.proofs.Common.{refl, sym, ap, ◌∙◌, length, length-drop, arith}
use Rattle.scan.proofs.PlaceLaws.{run_left}
use Rattle.base64text.specs.Base64.{in_alphabet}
use Rattle.base64text.proofs.Alphabet.{block_passed}
use Rattle.base64text.proofs.alphabet_end.Goals as goal

pub returns-then-t-at : goal.returns-then-t-at
returns-then-t-at c = run_left in_alphabet _ _ _ refl c.if-t-at.true

pub loop-block-preserved : goal.loop-block-preserved
loop-block-preserved c =
    let q = c.loop-block in
    let v = q.invariant in
    let k = c.in-Some.ensures.steps in
    let b = block_passed c.args.t.now q.i _ _ v.within (sym v.left ∙ k.1.0) (sym c.count_outside.ensures ∙ c.if-count_outside-ne0.false) in
    record { size = k.0 ∙ v.size; within = b.0; left = b.1; run = v.run ∙ b.2 }

pub returns : goal.returns
returns c =
    let q = c.loop-block in
    run_left in_alphabet c.args.t.now _ q.i q.invariant.run (omega (arith, ap length q.invariant.left, length-drop q.i c.args.t.now, c.in-None.ensures.steps.1.0))
