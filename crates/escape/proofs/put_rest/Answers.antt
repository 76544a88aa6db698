-- `put_rest` writes a short text whole where none of its bytes becomes two, and else byte after byte.
-- `grows_not`: a text that doesn't grow stands as it is.
use native.Mathlib.Omega.{arith}
use Rattle.escape.proofs.BlockLaws.{grows_not}
use Rattle.escape.proofs.put_rest.Goals as goal

pub returns-then-escapes-eq0 : goal.returns-then-escapes-eq0
returns-then-escapes-eq0 c =
    let a = c.args in
    rw (grows_not a.k a.s.now (omega (arith, c.escapes.ensures, c.if-escapes-eq0.true))) c.put_bytes.ensures
