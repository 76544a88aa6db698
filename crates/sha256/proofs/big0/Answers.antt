-- `big0` is `Σ0` of 4.1.2: its operations are those of the definition.
use Rattle.sha256.specs.Operations.{Σ0}
use Rattle.sha256.proofs.big0.Goals as goal

pub returns : goal.returns
unfolding Σ0
returns c = simp (c.rotate_right.ensures, c.rotate_right-2.ensures, c.rotate_right-3.ensures)
