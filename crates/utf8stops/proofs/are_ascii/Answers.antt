-- `are_ascii`: eight bytes that all pass the test are there and are ASCII; where it says no nothing is promised.
-- By `ascii_eight`, which puts the eight tests together.
use Rattle.utf8stops.proofs.Low.{ascii_eight}
use Rattle.utf8stops.proofs.are_ascii.Goals as goal

pub returns-then-d-at-ge8 : goal.returns-then-d-at-ge8
returns-then-d-at-ge8 c = ascii_eight c.args.d.now c.args.at c.requires c.if-d-at-ge8.true
