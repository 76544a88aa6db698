-- `keys`: id, pubkey and sig, each behind its label.
-- By the definition, one after the other.
use Rattle.std.proofs.Common.{sym}
use Rattle.nson.specs.Read.{keys_at}
use Rattle.nsoncounts.proofs.keys.Goals as goal

pub returns : goal.returns
unfolding keys_at
returns c = rw (sym c.in_ok-at.ensures, sym c.in_ok-at-2.ensures) c.labelled-3.ensures
