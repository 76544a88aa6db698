-- `count_texts` counts the texts of a tag. The invariant: those counted and those from here on are all.
-- Each turn is one law.
use Rattle.jsonread.proofs.Copying.{Counting}
use Rattle.jsonread.proofs.count_texts.Given as goal

abbrev pub invariant-loop-count : goal.invariant-loop-count
invariant-loop-count l = Counting l.s l.fn.at l.i l.count
