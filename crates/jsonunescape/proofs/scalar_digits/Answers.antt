-- `scalar_digits` writes the bytes of a scalar value to an array and asks of what was written.
-- What was written from its start is there: `encoded`.
use mathlib.Core.Path.{refl, ap, ◌∙◌}
use Rattle.hexdigits.specs.Hex.{all_digits}
use Rattle.jsonunescape.proofs.Parts.{encoded}
use Rattle.jsonunescape.proofs.scalar_digits.Goals as goal

pub returns : goal.returns
returns c =
    c.all_digits.ensures ∙ ap all_digits (c.part.ensures ∙ encoded c.args.n refl c.put_scalar-k.ensures)
