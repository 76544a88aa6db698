-- `put_unhex` writes all the bytes where they fit, and else as many as there is room for.
-- `unhex_cut`: what is behind the buffer's end does not matter.
use Prim.Native.Nat.{◌-◌}
use native.Mathlib.Omega.{arith}
use lib.ListN.{length, length-take}
use Rattle.buffer.proofs.Laws.{full}
use Rattle.hexdigits.proofs.Turn.{unhex_cut}
use Rattle.hexdigits.proofs.put_unhex.Goals as goal

pub returns-then-out-at : goal.returns-then-out-at
returns-then-out-at c = full c.if-out-at.true

pub slice_bounds-unhex_all-end : goal.slice_bounds-unhex_all-end
slice_bounds-unhex_all-end c = simp length-take (omega arith)

pub unhex_all-requires-2 : goal.unhex_all-requires-2
unhex_all-requires-2 c = simp length-take (omega arith)

pub returns : goal.returns
returns c =
    let a = c.args in
    unhex_cut a.t.now (length a.out.now - a.at) (omega arith) (omega arith) c.unhex_all-2.ensures
