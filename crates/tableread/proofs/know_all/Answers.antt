use Rattle.std.proofs.Common.{◌≡◌, length, arith}
use Rattle.slots.specs.Slots.{free_slot}
use Rattle.tableread.proofs.Turns.{known_again, known_left}
use Rattle.tableread.proofs.know_all.Goals as goal

pub loop-i-preserved : goal.loop-i-preserved
loop-i-preserved c =
    let q = c.loop-i in
    let size : length c.args.t.now ≡ 64 = omega (arith, c.well_formed) in
    known_again c.args.cells.now c.args.t.now size q.ks q.i q.invariant.0 q.invariant.1 free_slot c.loop-i-test.true c.know.ensures

pub returns : goal.returns
returns c =
    let q = c.loop-i in
    let size : length c.args.t.now ≡ 64 = omega (arith, c.well_formed) in
    known_left c.args.cells.now c.args.t.now size q.ks q.i q.invariant.0 q.invariant.1 c.loop-i-test.false
