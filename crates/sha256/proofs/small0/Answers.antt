-- `small0` is `σ0` of 4.1.2: its operations are those of the definition.
use Rattle.sha256.specs.Operations.{σ0}
use Rattle.sha256.proofs.small0.Goals as goal

pub returns : goal.returns
unfolding σ0
returns c = simp (c.rotate_right.ensures, c.rotate_right-2.ensures)
