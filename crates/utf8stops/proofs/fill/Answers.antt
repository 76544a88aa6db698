use mathlib.Core.Path.{◌≡◌}
use native.Mathlib.Omega.{arith}
use Rattle.utf8stops.proofs.Turns.{fill_told, fill_done}
use Rattle.utf8stops.proofs.fill.Goals as goal

pub stop_of-requires : goal.stop_of-requires
stop_of-requires c =
    let v = c.loop-i.invariant in
    let h = c.loop-i-test.true in
    (fill_told c.args.d.now c.args.stops.now _ c.requires.1 v h, omega (arith, v.most, h), omega arith)

pub returns : goal.returns
returns c =
    let z : c.loop-i.i ≡ 0 = omega (arith, c.loop-i-test.false) in
    fill_done c.args.d.now c.args.stops.now _ _ z c.loop-i.invariant
