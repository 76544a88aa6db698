-- `convert_first` answers 28 for a split second: by the law of what a v0 shows then. The rest is found by the laws for
-- each outcome of the reader and of the second.
use mathlib.Core.Path.{sym}
use Rattle.pointconvert.proofs.Converting.{event_split}
use Rattle.pointconvert.proofs.convert_first.Goals as goal

pub returns-in_default : goal.returns-in_default
returns-in_default c =
    let u = event_split c.args.s.now c.requires (sym c.in_ok-outline.ensures) c.in_default.ensures in
    record { result_value = rw u; out_after = rw u }
