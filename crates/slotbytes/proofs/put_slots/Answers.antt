use native.Mathlib.Omega.{arith}
use Rattle.buffer.proofs.Laws.{start, part, done, also}
use Rattle.slots.specs.Slots.{free_slot}
use Rattle.slotbytes.proofs.Turns.{bytes_turn, bytes_end}
use Rattle.slotbytes.proofs.put_slots.Goals as goal

pub loop-s-init : goal.loop-s-init
loop-s-init c = start

pub loop-s-preserved : goal.loop-s-preserved
loop-s-preserved c =
    let q = c.loop-s in
    let t = c.args.t.now in
    part (also (bytes_turn t q.s-index free_slot (omega (arith, c.well_formed))) q.invariant) c.put_slot-o.ensures

pub returns : goal.returns
returns c =
    let q = c.loop-s in
    done (also (bytes_end c.args.t.now q.s-index (omega (arith, c.well_formed))) q.invariant)
