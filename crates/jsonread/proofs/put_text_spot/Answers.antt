-- `put_text_spot` writes the text of a spelled string, or its bytes as they are.
-- By the test that the definition makes.
use borrow.Author.Tests.{eq-eqb, ne_eqb}
use Rattle.jsonread.specs.inner.Copy.{spot_content}
use Rattle.jsonread.proofs.put_text_spot.Goals as goal

pub returns-then-p : goal.returns-then-p
unfolding spot_content
returns-then-p c = rw (eq-eqb _ _ c.if-p.true) c.put_part.ensures

pub returns : goal.returns
unfolding spot_content
returns c = rw (ne_eqb _ _ c.if-p.false) c.put_unescaped.ensures
