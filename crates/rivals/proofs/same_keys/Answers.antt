-- `same_keys` tells whether two packed events have the same key.
-- Two of one replaceable kind by `same-replaceable`; else the keys that stand there are compared.
use Rattle.rivals.proofs.Choosing.{same-replaceable}
use Rattle.rivals.proofs.same_keys.Goals as goal

pub returns-then-is_replaceable : goal.returns-then-is_replaceable
returns-then-is_replaceable c =
    let a = c.args in
    rw (c.same_bytes.ensures, c.part-then-is_replaceable.ensures, c.part.ensures)
    (same-replaceable a.s.now a.t.now a.h a.k c.if-h-k.true (rw (← c.is_replaceable.ensures) c.if-is_replaceable.true))
