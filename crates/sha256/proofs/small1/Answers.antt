-- `small1` is `σ1` of 4.1.2: its operations are those of the definition.
use Rattle.sha256.specs.Operations.{σ1}
use Rattle.sha256.proofs.small1.Goals as goal

pub returns : goal.returns
unfolding σ1
returns c = simp (c.rotate_right.ensures, c.rotate_right-2.ensures)
