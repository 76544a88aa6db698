-- `settle` hashes the whole blocks and lets the rest wait, as `settled` says.
use Rattle.sha256.specs.Pieces.{settled}
use Rattle.sha256.proofs.Filling.{tail_block}
use Rattle.sha256.proofs.settle.Goals as goal

pub returns : goal.returns
unfolding settled
returns c = rw (c.whole_blocks.ensures, tail_block c.args.l.now _ c.block_of.ensures)
