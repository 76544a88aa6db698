-- `whole_end` goes back to a first byte that asks for a tail at the place or past it, or stays where none does.
-- By `reach_first` and `reach_end`.
use native.Mathlib.Omega.{arith}
use Rattle.utf8.proofs.WindowLaws.{reach_first, reach_end}
use Rattle.utf8.proofs.windows.whole_end.Goals as goal

pub returns-then-s-e-ge192 : goal.returns-then-s-e-ge192
returns-then-s-e-ge192 c = reach_first _ _ _ c.requires.1.1 (omega arith) (omega arith) (omega (arith, c.if-s-e-ge192.true))

pub returns-then-s-e-ge224 : goal.returns-then-s-e-ge224
returns-then-s-e-ge224 c = reach_first _ _ _ c.requires.1.1 (omega arith) (omega arith) (omega (arith, c.if-s-e-ge224.true))

pub returns-then-s-e-ge240 : goal.returns-then-s-e-ge240
returns-then-s-e-ge240 c = reach_first _ _ _ c.requires.1.1 (omega arith) (omega arith) (omega (arith, c.if-s-e-ge240.true))

pub returns : goal.returns
returns c = reach_end _ _ c.requires.1.1 (omega arith) (omega arith) c.if-s-e-ge192.false c.if-s-e-ge224.false c.if-s-e-ge240.false
