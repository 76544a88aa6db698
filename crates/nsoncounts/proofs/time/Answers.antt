-- `time`: the label, then ten digits, which never pass the maximum.
use Rattle.std.proofs.Common.{sym, ◌∙◌}
use Rattle.nson.specs.Read.{time_at}
use Rattle.nsoncounts.proofs.Decimals.{ten_digits}
use Rattle.nsoncounts.proofs.time.Goals as goal

pub returns : goal.returns
unfolding time_at
returns c = rw (sym c.in_ok-at.ensures) (c.counted_number.ensures ∙ ten_digits 12 12 c.args.s.now _)
