-- `canonical_len` is the length of the whole text: ten fixed bytes, and each piece's own.
-- By the law of the whole length; every piece is bounded, so the sums fit.
use native.Mathlib.Omega.{arith}
use Rattle.canonical.proofs.Whole.{row_length}
use Rattle.canonical.proofs.canonical_len.Goals as goal

pub returns : goal.returns
returns c =
    let p = c.args.packed.now in
    omega (
      arith,
      row_length p.bytes.now p.head,
      c.quoted_len.ensures.value,
      c.decimal_len.ensures.value,
      c.decimal_len-2.ensures.value,
      c.tags_len.ensures.value,
      c.quoted_len-2.ensures.value,
    )
