use Prim.Native.Nat.{ℕ, ◌+◌}
use native.Mathlib.Omega.{arith}
use Rattle.std.specs.Prelude.{Result, Ok, Err}
use Rattle.event.specs.declared.Refusal.{Refusal}
use Rattle.event.proofs.Handed.{handed_on}
use Rattle.jsontext.proofs.TokenLaws.{space_onward}
use Rattle.jsonfields.proofs.Items.{items_none, items_start, items_refused, items_closed, items_other, items_full, items_again}
use Rattle.jsonfields.proofs.read_items.Goals as goal

pub returns-then-byte_at-eq93 : goal.returns-then-byte_at-eq93
returns-then-byte_at-eq93 g c tell h = items_none tell c.args.s.now _ _ _ c.byte_at.ensures c.if-byte_at-eq93.true

pub loop-item-init : goal.loop-item-init
loop-item-init g c =
    (λ tell h. items_start tell c.args.s.now _ _ _ c.byte_at.ensures c.if-byte_at-eq93.false, omega arith, omega arith)

pub returns-in_err-k : goal.returns-in_err-k
returns-in_err-k g c tell h =
    let q = c.loop-item in
    let e = h q.i (Err c.in_err-k.field-0.0) (omega arith) c.in_err-k.ensures in
    rw (handed_on _ c.from_residual.ensures) (items_refused tell c.args.s.now _ _ (q.invariant.0 tell h) e)

pub returns-then-b-eq93 : goal.returns-then-b-eq93
returns-then-b-eq93 g c tell h =
    let q = c.loop-item in
    let e = h q.i (Ok (c.in_ok-k.k, c.in_ok-k.next)) (omega arith) c.in_ok-k.ensures in
    items_closed tell c.args.s.now _ _ (q.invariant.0 tell h) e c.skip_space-p.ensures c.byte_at-b.ensures c.if-b-eq93.true

pub returns-then-b-ne44 : goal.returns-then-b-ne44
returns-then-b-ne44 g c tell h =
    let q = c.loop-item in
    let e = h q.i (Ok (c.in_ok-k.k, c.in_ok-k.next)) (omega arith) c.in_ok-k.ensures in
    rw c.not_allowed.ensures
    (items_other tell c.args.s.now _ _ (q.invariant.0 tell h) e c.skip_space-p.ensures c.byte_at-b.ensures
    c.if-b-eq93.false c.if-b-ne44.true)

pub returns-then-count-most : goal.returns-then-count-most
returns-then-count-most g c tell h =
    let q = c.loop-item in
    let e = h q.i (Ok (c.in_ok-k.k, c.in_ok-k.next)) (omega arith) c.in_ok-k.ensures in
    items_full tell c.args.s.now _ _ (q.invariant.0 tell h) e c.skip_space-p.ensures c.byte_at-b.ensures
    c.if-b-eq93.false c.if-b-ne44.false (omega (arith, c.if-count-most.true))

-- the next item stands further on, and one item more was bounded
pub loop-item-preserved : goal.loop-item-preserved
loop-item-preserved g c =
    let q = c.loop-item in
    let s = c.args.s.now in
    let r : Result (ℕ × ℕ) Refusal = Ok (c.in_ok-k.k, c.in_ok-k.next) in
    let m = c.requires.small q.i r (omega arith) c.in_ok-k.ensures in
    let o = space_onward s c.in_ok-k.next in
    let w = space_onward s (c.skip_space-p.result + 1) in (
      λ tell h.
          items_again tell s _ _ (q.invariant.0 tell h) (h q.i r (omega arith) c.in_ok-k.ensures) c.skip_space-p.ensures
          c.byte_at-b.ensures c.if-b-eq93.false c.if-b-ne44.false (omega (arith, c.if-count-most.false)) c.skip_space-i.ensures,
      omega (arith, c.if-count-most.false),
      omega (arith, m, c.skip_space-p.ensures, c.skip_space-i.ensures, o, w),
    )
