-- `decide_good` plans and carries out with the strict bytes in a scratch, which has room for them.
-- By the laws of `Deciding`.
use Rattle.std.proofs.Common.{◌≡◌, ◌<◌, ◌≤◌, length, sym, subst, arith, rules}
use Rattle.tableoffer.specs.declared.Plan.{Plan}
use Rattle.tableoffer.specs.inner.Plan.{place_number}
use Rattle.tableoffer.proofs.Deciding.{plan_within, scratch_stands, good_done}
use Rattle.tableoffer.proofs.decide_good.Goals as goal

pub carry_out-requires : goal.carry_out-requires
carry_out-requires c =
    let a = c.args in
    let size : length a.ks.now ≡ 64 = omega (arith, c.well_formed) in
    subst (λ (p : Plan). place_number p < 64) (sym c.plan_offer-p.ensures) (plan_within a.cells.now a.ks.now a.packed.now _ _ 64 (omega arith) size)

pub returns : goal.returns
returns c =
    let a = c.args in
    let u = c.in_ok-h.ensures in
    let l : c.in_ok-h.t.len ≤ 1_024 = omega arith in
    let b = scratch_stands a.packed.now (λ i. (c.type_inv.packed i).fits) u l (search rules) c.put_packed-n.ensures c.part-b.ensures in
    let p = good_done a.cells.now a.ks.now a.packed.now u l b c.plan_offer-p.ensures (c.carry_out.ensures.value, c.carry_out.ensures.cells_after) in
    record { value = p.0; cells_after = p.1 }
