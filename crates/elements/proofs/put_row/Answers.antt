-- `put_row` writes what is told of an element.
-- Four numbers in a row are one text; a `bool` is 1 or 0.
use mir.Val.{bool_byte}
use mathlib.Core.Path.{◌≡◌, refl}
use mathlib.Core.Bool.{Bool, true, false}
use Rattle.scan.specs.Choice.{pick}
use Rattle.buffer.proofs.Laws.{then}
use Rattle.elements.specs.Elements.{row}
use Rattle.elements.proofs.put_row.Goals as goal

one_or_none : (t : Bool) → bool_byte t ≡ pick t 1 0
one_or_none true = refl
one_or_none false = refl

pub returns : goal.returns
unfolding row
returns c =
    rw (← one_or_none c.args.p.raw, ← c.from.ensures)
    (then (then (then c.put_number-a.ensures c.put_number-b.ensures) c.put_number-c.ensures) c.put_number.ensures)
