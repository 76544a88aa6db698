use mathlib.Core.Path.{sym}
use native.Mathlib.Omega.{arith}
use Rattle.jsonobject.proofs.Members.{members_closed, members_sum, members_missing, members_other, members_less}
use Rattle.jsonobject.proofs.read_members.Goals as goal

pub returns-in_default : goal.returns-in_default
returns-in_default c =
    rw c.refused.ensures
    (members_missing c.args.s.now c.args.at c.loop-next.invariant c.in_ok-next.ensures c.skip_space-p.ensures c.byte_at-b.ensures c.if-b-eq125.true (sym c.in_default.ensures))

pub strict_len-len-requires : goal.strict_len-len-requires
strict_len-len-requires c =
    omega (arith, members_sum c.args.s.now c.args.at c.loop-next.invariant c.in_ok-next.ensures c.skip_space-p.ensures c.byte_at-b.ensures (omega arith) c.if-b-eq125.true (sym c.in-Some.ensures))

pub returns-then-b-eq125 : goal.returns-then-b-eq125
returns-then-b-eq125 c =
    members_closed c.args.s.now c.args.at c.loop-next.invariant c.in_ok-next.ensures c.skip_space-p.ensures c.byte_at-b.ensures c.if-b-eq125.true (sym c.in-Some.ensures) c.strict_len-len.ensures

pub returns-then-b-ne44 : goal.returns-then-b-ne44
returns-then-b-ne44 c =
    rw c.refused-then-b-ne44.ensures
    (members_other c.args.s.now c.args.at c.loop-next.invariant c.in_ok-next.ensures c.skip_space-p.ensures c.byte_at-b.ensures c.if-b-eq125.false c.if-b-ne44.true)

pub loop-next-smaller : goal.loop-next-smaller
loop-next-smaller c =
    members_less c.args.s.now c.args.at c.loop-next.invariant c.in_ok-next.ensures c.skip_space-p.ensures c.byte_at-b.ensures (omega arith) c.if-b-ne44.false c.skip_space-i.ensures
