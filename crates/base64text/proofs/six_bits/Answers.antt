-- `six_bits` looks a byte up. The table is the definition's, computed.
use Rattle.std.proofs.Common.{refl}
use Rattle.scan.specs.Place.{run}
use Rattle.base64text.specs.Base64.{alphabet, six_bits}
use Rattle.base64text.specs.inner.Tables.{bits_table}
use Rattle.base64text.proofs.Alphabet.{table_bits}
use Rattle.base64text.proofs.six_bits.Goals as goal

pub returns : goal.returns
unfolding bits_table six_bits alphabet run
returns c = table_bits _ c.args.b refl c.ranges.b.fits
