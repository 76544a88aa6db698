use mathlib.Core.Path.{refl, ◌∙◌}
use lib.ListN.{length-set}
use Rattle.slotbytes.proofs.Turns.{table_turn, table_end}
use Rattle.slotbytes.proofs.slots_in.Goals as goal

pub loop-i-init : goal.loop-i-init
loop-i-init c = (refl, refl)

pub loop-i-preserved : goal.loop-i-preserved
loop-i-preserved c =
    let q = c.loop-i in (
      length-set q.slot-items q.i _ ∙ q.invariant.0,
      table_turn 64 _ _ q.slot-items q.i _ q.invariant.0 q.invariant.1 c.loop-i-test.true c.part.ensures c.slot_of.ensures,
    )

pub returns : goal.returns
returns c =
    let q = c.loop-i in
    table_end 64 c.args.b.now q.slot-items q.i q.invariant.0 q.invariant.1 c.loop-i-test.false
