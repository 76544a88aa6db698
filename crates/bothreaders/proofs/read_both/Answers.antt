-- `read_both` answers how the two readers compare and leaves each buffer as its reader does.
-- By the laws of the entry, one for each way out of it; what is not here the check finds alone.
use mathlib.Core.Path.{refl}
use Rattle.bothreaders.proofs.Laws.{both_short, both_short_first, both_written}
use Rattle.bothreaders.proofs.read_both.Goals as goal

pub returns-then-second-need-clause-second_after : goal.returns-then-second-need-clause-second_after
returns-then-second-need-clause-second_after c =
    (both_short c.args.s.now c.args.first.now c.args.second.now c.in_ok-need.ensures refl c.if-second-need.true refl).1.1

pub returns-then-first-size-clause-first_after : goal.returns-then-first-size-clause-first_after
returns-then-first-size-clause-first_after c =
    (both_short_first c.args.s.now c.args.first.now c.args.second.now c.in_ok-need.ensures refl c.if-second-need.false c.in-Ok.ensures refl c.if-first-size.true refl).1.0

pub returns-then-write_both-clause-result_value : goal.returns-then-write_both-clause-result_value
returns-then-write_both-clause-result_value c =
    let w = c.write_both.ensures in
    (rw c.if-write_both.true at (both_written c.args.s.now c.args.first.now c.args.second.now c.in_ok-need.ensures refl c.if-second-need.false c.in-Ok.ensures refl c.if-first-size.false w.value w.first_after w.second_after)).0

pub returns-clause-result_value : goal.returns-clause-result_value
returns-clause-result_value c =
    let w = c.write_both.ensures in
    (rw c.if-write_both.false at (both_written c.args.s.now c.args.first.now c.args.second.now c.in_ok-need.ensures refl c.if-second-need.false c.in-Ok.ensures refl c.if-first-size.false w.value w.first_after w.second_after)).0
