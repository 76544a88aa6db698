use Rattle.nsonstring.proofs.Turns.{turns}
use Rattle.nsonstring.proofs.first_fault.Goals as goal

pub loop-i-preserved-then-b-eq92 : goal.loop-i-preserved-then-b-eq92
loop-i-preserved-then-b-eq92 c = search turns
