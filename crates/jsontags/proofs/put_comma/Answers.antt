-- `put_comma` writes the comma in front of more items.
-- By its one test.
use borrow.Author.Tests.{le-ltb, lt-ltb}
use Rattle.buffer.proofs.Laws.{nothing}
use Rattle.jsontags.proofs.put_comma.Goals as goal

pub returns-then-left-gt0 : goal.returns-then-left-gt0
returns-then-left-gt0 c = simp (lt-ltb _ _ c.if-left-gt0.true) c.put_byte.ensures

pub returns : goal.returns
returns c = simp (le-ltb _ _ c.if-left-gt0.false) nothing
