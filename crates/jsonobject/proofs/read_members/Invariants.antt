-- `read_members` reads the members one after the other. The invariant: those from the first on are those from here on,
-- with the fields found so far.
-- Each turn is one law; each member takes a byte or more, so that the input falls.
use Prim.Native.Nat.{◌-◌}
use lib.ListN.{length}
use Rattle.jsonobject.proofs.Members.{InMembers}
use Rattle.jsonobject.proofs.read_members.Given as goal

abbrev pub invariant-loop-next : goal.invariant-loop-next
invariant-loop-next l = InMembers l.s l.initial.i l.found l.i

abbrev pub decreases-loop-next : goal.decreases-loop-next
decreases-loop-next l = length l.s - l.i
