-- `read_packed` tells the numbers of an input of either form: the start's refusal, or the reader's of the bare bytes,
-- moved, or the numbers with their places moved.
-- By the laws of `Viewing` for each way it can end.
use mathlib.Core.Path.{sym}
use native.Mathlib.Omega.{arith}
use Rattle.event.proofs.Handed.{handed_on}
use Rattle.versioned.proofs.Viewing.{numbers_none, numbers_start, head_fits}
use Rattle.versioned.proofs.read_packed.Goals as goal

pub returns-in_err-k : goal.returns-in_err-k
returns-in_err-k c =
    let a = c.args in
    rw (handed_on _ c.from_residual.ensures) (sym (numbers_none a.bare a.s.now (sym c.in_err-k.ensures)))

pub returns-in_err-h : goal.returns-in_err-h
returns-in_err-h c =
    let e = numbers_start c.args.bare c.args.s.now (sym c.in_ok-k.ensures) in
    rw (handed_on _ c.from_residual-in_err-h.ensures, e, ← c.from.ensures, ← c.read_packed.ensures, ← c.in_err-h.ensures)

pub move_head-requires : goal.move_head-requires
move_head-requires c =
    let q = rw (c.read_packed.ensures, c.from.ensures) at c.in_ok-h.ensures in
    let h = head_fits c.args.bare c.args.s.now (sym c.in_ok-k.ensures) q in
    (omega (arith, h.0), omega (arith, h.1))

pub returns : goal.returns
returns c =
    let e = numbers_start c.args.bare c.args.s.now (sym c.in_ok-k.ensures) in
    rw (c.move_head.ensures, e, ← c.from.ensures, ← c.read_packed.ensures, ← c.in_ok-h.ensures)
