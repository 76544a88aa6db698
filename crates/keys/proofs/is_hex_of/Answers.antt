use Rattle.std.proofs.Common.{sym, ◌∙◌}
use borrow.Author.Tests.{eq-eqb, ne_eqb}
use Rattle.scan.proofs.Step.{rest_whole}
use Rattle.keys.proofs.Loops.{hex_short, hex_turn, hex_end}
use Rattle.keys.proofs.is_hex_of.Goals.{then-high-digit_of-via-then-high-digit_of, then-high-digit_of-via-else-high-digit_of+then-low-digit_of}
use Rattle.keys.proofs.is_hex_of.Goals as goal

pub returns-in_default : goal.returns-in_default
returns-in_default c =
    let q = c.loop-b in
    sym (q.invariant ∙ hex_short c.args.a.now q.rest.now q.b-index c.loop-b-test.true c.in_default.len_below)

pub returns-then-high-digit_of : goal.returns-then-high-digit_of
returns-then-high-digit_of c =
    let q = c.loop-b in
    let turn = q.invariant ∙ hex_turn c.args.a.now q.rest.now q.b-index c.loop-b-test.true (c.type_inv.a q.b-index).fits c.in-len2-up.len_at_least in
    elim c.then-high-digit_of.branch [
      | then-high-digit_of-via-then-high-digit_of w ↦ sym (turn ∙ rw (← c.digit_of.ensures, ne_eqb _ _ (λ e. w.if-high-digit_of.true (sym e))))
      | then-high-digit_of-via-else-high-digit_of+then-low-digit_of w ↦
          sym (turn ∙ rw (← c.digit_of.ensures, ← w.digit_of-else-high-digit_of.ensures, eq-eqb _ _ (sym w.if-high-digit_of.false), ne_eqb _ _ (λ e. w.if-low-digit_of.true (sym e))))
    ]

pub loop-b-preserved : goal.loop-b-preserved
loop-b-preserved c =
    let q = c.loop-b in
    let turn = q.invariant ∙ hex_turn c.args.a.now q.rest.now q.b-index c.loop-b-test.true (c.type_inv.a q.b-index).fits c.in-len2-up.len_at_least in
    turn
    ∙ rw (← c.digit_of.ensures, ← c.digit_of-else-high-digit_of.ensures, eq-eqb _ _ (sym c.if-high-digit_of.false), eq-eqb _ _ (sym c.if-low-digit_of.false), rest_whole q.rest.now 2)

pub returns : goal.returns
returns c = let q = c.loop-b in sym (q.invariant ∙ hex_end c.args.a.now q.rest.now q.b-index c.loop-b-test.false ∙ sym c.is_empty.ensures)
