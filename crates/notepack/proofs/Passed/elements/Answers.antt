use Rattle.scan.proofs.AllLaws.{all_places}
use Rattle.notepack.proofs.Passing.{element_room}
use Rattle.notepack.proofs.Passed.elements.Goals as goal

-- the strict form stays no longer than what was read
pub more-sum-requires : goal.more-sum-requires
more-sum-requires c =
    element_room c.args.s.now (all_places c.args.s.now (λ i. (c.type_inv.s i).fits)) c.loop.sum c.in_ok-p.ensures c.packed_part_len.ensures
