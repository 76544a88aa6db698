-- `Half::put_scalar` writes the bytes of a scalar value to an array and hands what was written to `put_digits`.
-- What was written from its start is there: `encoded`.
use mathlib.Core.Path.{refl, ◌∙◌}
use Rattle.jsonunescape.proofs.Parts.{encoded}
use Rattle.jsonunescape.proofs.Half.put_scalar.Goals as goal

pub returns : goal.returns
returns c = rw (c.part.ensures ∙ encoded c.args.n refl c.put_scalar-k.ensures) at c.put_digits.ensures
