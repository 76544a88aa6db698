-- `big1` is `Σ1` of 4.1.2: its operations are those of the definition.
use Rattle.sha256.specs.Operations.{Σ1}
use Rattle.sha256.proofs.big1.Goals as goal

pub returns : goal.returns
unfolding Σ1
returns c = simp (c.rotate_right.ensures, c.rotate_right-2.ensures, c.rotate_right-3.ensures)
