use Rattle.std.proofs.Common.{sym, ◌∙◌}
use Rattle.tableread.proofs.Passes.{find_good, find_other, find_end}
use Rattle.tableread.proofs.find.Goals.{in-Good+else-holds_name, in_default}
use Rattle.tableread.proofs.find.Goals as goal

pub returns-then-holds_name : goal.returns-then-holds_name
returns-then-holds_name c =
    let q = c.loop-i in
    let a = c.args in
    sym (q.invariant ∙ find_good a.ks.now q.i a.cells.now a.s.now a.key a.print c.loop-i-test.true c.in-Good.is ∙ rw (← c.in-Good.is, ← c.holds_name.ensures, c.if-holds_name.true))

pub loop-i-preserved : goal.loop-i-preserved
loop-i-preserved c =
    let q = c.loop-i in
    let a = c.args in
    elim c.match-k.branch [
      | in-Good+else-holds_name w ↦ q.invariant ∙ find_good a.ks.now q.i a.cells.now a.s.now a.key a.print c.loop-i-test.true w.in-Good.is ∙ rw (← w.in-Good.is, ← w.holds_name.ensures, w.if-holds_name.false)
      | in_default w ↦ q.invariant ∙ find_other a.ks.now q.i a.cells.now a.s.now a.key a.print c.loop-i-test.true (λ a e. w.in_default.not-Good a e)
    ]

pub returns : goal.returns
returns c =
    let q = c.loop-i in
    let a = c.args in
    sym (q.invariant ∙ find_end a.ks.now q.i a.cells.now a.s.now a.key a.print c.loop-i-test.false)
