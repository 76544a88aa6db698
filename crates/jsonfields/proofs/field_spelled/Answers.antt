-- `field_spelled` writes a name out, if it is short enough, and tells its field.
-- What was written is the text; no name is longer than ten bytes.
use mathlib.Core.Path.{ap, ◌∙◌}
use native.Mathlib.Omega.{arith}
use Rattle.jsonevent.specs.Field.{field_of}
use Rattle.jsonfields.proofs.Names.{long_name, wrote_part}
use Rattle.jsonfields.proofs.field_spelled.Goals as goal

pub returns-then-unescaped_len-gt10 : goal.returns-then-unescaped_len-gt10
returns-then-unescaped_len-gt10 c = long_name _ (omega (arith, c.if-unescaped_len-gt10.true, c.unescaped_len.ensures.value))

pub returns : goal.returns
returns c = c.field_named.ensures ∙ ap field_of (c.part.ensures ∙ wrote_part c.put_unescaped-end.ensures (omega (arith, c.if-unescaped_len-gt10.false, c.unescaped_len.ensures.value)))
