use native.Mathlib.Omega.{arith}
use Rattle.jsonstring.proofs.Turn.{text_bad_escape, texts}
use Rattle.jsonstring.proofs.PlainLaws.{plain_behind, text_plain}
use Rattle.jsontext.proofs.EscapeLaws.{width_fits}
use Rattle.jsonstring.proofs.read_slowly.Goals as goal

pub loop-i-2-init : goal.loop-i-2-init
loop-i-2-init c = (omega arith, text_plain _ (plain_behind _ _ _ (omega arith) c.plain_blocks-i.ensures) c.loop-i.invariant.1, omega arith)

pub returns-then-b-lt32 : goal.returns-then-b-lt32
returns-then-b-lt32 c = search texts

pub returns-in_default : goal.returns-in_default
returns-in_default c =
    let q = c.loop-i-2 in
    text_bad_escape _ _ _ q.invariant.1 (omega arith) c.if-b-eq34.false (omega arith) c.if-b-eq92.true c.in_default.ensures.value

pub overflow_add-i-then-b-eq92 : goal.overflow_add-i-then-b-eq92
overflow_add-i-then-b-eq92 c = width_fits _ _ (omega arith) (omega arith) c.if-b-eq92.true c.in-Some.ensures.value

pub returns-then-w-eq0 : goal.returns-then-w-eq0
returns-then-w-eq0 c = search texts

pub returns : goal.returns
returns c = search texts
