use Rattle.std.proofs.Common.{sym, ◌∙◌}
use Rattle.tableread.proofs.Passes.{behind, lowest_free, lowest_here, lowest_good, lowest_end}
use Rattle.tableread.proofs.lowest_bad.Goals.{in-Free, in-Good+else-some_holds}
use Rattle.tableread.proofs.lowest_bad.Goals as goal

pub returns-in-Bad : goal.returns-in-Bad
returns-in-Bad c = let q = c.loop-i in sym (q.invariant ∙ lowest_here c.args.ks.now q.i c.args.cells.now c.loop-i-test.true c.in-Bad.is)

pub returns-then-some_holds : goal.returns-then-some_holds
returns-then-some_holds c =
    let q = c.loop-i in
    let ks = c.args.ks.now in
    sym (q.invariant ∙ lowest_good ks q.i c.args.cells.now c.loop-i-test.true c.in-Good.is ∙ rw (← c.part-s.ensures, ← behind ks q.i, ← c.some_holds.ensures, c.if-some_holds.true))

pub loop-i-preserved : goal.loop-i-preserved
loop-i-preserved c =
    let q = c.loop-i in
    let ks = c.args.ks.now in
    elim c.match-k.branch [
      | in-Free w ↦ q.invariant ∙ lowest_free ks q.i c.args.cells.now c.loop-i-test.true w.in-Free.is
      | in-Good+else-some_holds w ↦ q.invariant ∙ lowest_good ks q.i c.args.cells.now c.loop-i-test.true w.in-Good.is ∙ rw (← w.part-s.ensures, ← behind ks q.i, ← w.some_holds.ensures, w.if-some_holds.false)
    ]

pub returns : goal.returns
returns c = let q = c.loop-i in sym (q.invariant ∙ lowest_end c.args.ks.now q.i c.args.cells.now c.loop-i-test.false)
