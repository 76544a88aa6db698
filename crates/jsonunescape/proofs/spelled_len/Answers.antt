-- `spelled_len` looks first whether every backslash begins \n or \"; then the length is a difference (`short_length`).
-- Otherwise it is what `spelled_len_by_runs` counts.
use mathlib.Core.Path.{sym, ◌∙◌}
use native.Mathlib.Omega.{arith}
use Rattle.jsonunescape.proofs.ShortLaws.{short_length, short_none}
use Rattle.jsonunescape.proofs.spelled_len.Goals as goal

pub returns-then-n-eq0-clause-value : goal.returns-then-n-eq0-clause-value
returns-then-n-eq0-clause-value c = short_none c.args.t.now c.if-n-eq0.true

pub returns-then-even_pairs-clause-value : goal.returns-then-even_pairs-clause-value
returns-then-even_pairs-clause-value c =
    short_length c.args.t.now (omega arith) c.if-t-n-ne92.true (sym c.even_pairs.ensures ∙ c.if-even_pairs.true) c.slashes.ensures.value
