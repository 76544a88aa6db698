-- `unhex_block` has the values of its digits at the front of a buffer of its own, and writes the bytes of those.
-- `pairs_values`: they are the digits' bytes.
use Rattle.std.proofs.Common.{ap, ◌∙◌, arith}
use Rattle.buffer.proofs.Places.{stands_whole}
use Rattle.hexdigits.specs.inner.Block.{pairs_of}
use Rattle.hexdigits.proofs.Pairs.{length_values, pairs_values}
use Rattle.hexdigits.proofs.unhex_block.Goals as goal

pub returns : goal.returns
returns c =
    let t = c.args.t.now in
    let front = stands_whole (omega (arith, length_values t)) c.put_values.ensures in
    rw (ap pairs_of front ∙ pairs_values t) at c.put_pairs.ensures
