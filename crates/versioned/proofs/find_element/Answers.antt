-- `find_element` tells where an element of an input of either form stands in the bytes given.
-- By the laws of `Viewing` for each way it can end.
use mathlib.Core.Path.{sym}
use native.Mathlib.Omega.{arith}
use Rattle.event.proofs.Handed.{handed_on}
use Rattle.versioned.proofs.Viewing.{element_none, element_start, part_fits}
use Rattle.versioned.proofs.find_element.Goals as goal

pub returns-in_err-k : goal.returns-in_err-k
returns-in_err-k c =
    let a = c.args in
    rw (handed_on _ c.from_residual.ensures) (sym (element_none a.bare a.s.now a.i a.j (sym c.in_err-k.ensures)))

pub returns-in_err-p : goal.returns-in_err-p
returns-in_err-p c =
    let a = c.args in
    let e = element_start a.bare a.s.now (sym c.in_ok-k.ensures) a.i a.j in
    rw (handed_on _ c.from_residual-in_err-p.ensures, e, ← c.from.ensures, ← c.find_element.ensures, ← c.in_err-p.ensures)

pub move_part-requires : goal.move_part-requires
move_part-requires c =
    let a = c.args in
    let h = rw (c.find_element.ensures, c.from.ensures) at c.in_ok-p.ensures in
    omega (arith, part_fits a.bare a.s.now (sym c.in_ok-k.ensures) a.i a.j h)

pub returns : goal.returns
returns c =
    let a = c.args in
    let e = element_start a.bare a.s.now (sym c.in_ok-k.ensures) a.i a.j in
    rw (c.move_part.ensures, e, ← c.from.ensures, ← c.find_element.ensures, ← c.in_ok-p.ensures)
