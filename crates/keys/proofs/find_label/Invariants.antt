-- `find_label` goes over the tags to the first whose first text is `d`. The invariant is one equation: the label from
-- the start is that from here.
-- Each turn and each end is one law of `Loops`.
use Rattle.std.proofs.Common.{◌≡◌, ◌-◌}
use Rattle.keys.specs.inner.Place.{label_at}
use Rattle.keys.proofs.find_label.Given as goal

abbrev pub invariant-loop : goal.invariant-loop
invariant-loop l = label_at l.count l.s l.at ≡ label_at (l.count - l.counter) l.s l.i
