-- `Passed::tag` passes over a tag: its count, then its elements.
-- The laws of `Passing`: the elements behind their count are the tag, and the strict form stays no longer than what was
-- read.
use Rattle.scan.proofs.AllLaws.{all_places}
use Rattle.notepack.proofs.Passing.{count_room, tag_pass}
use Rattle.notepack.proofs.Passed.tag.Goals as goal

pub more-requires : goal.more-requires
more-requires c =
    let s = c.args.s.now in
    count_room s (all_places s (λ i. (c.type_inv.s i).fits)) c.args.self c.in_ok-n.ensures c.varint_len.ensures.value

pub returns : goal.returns
returns c =
    let s = c.args.s.now in
    let m = c.more.ensures in
    tag_pass s (all_places s (λ i. (c.type_inv.s i).fits)) c.args.self c.more.result c.in_ok-n.ensures c.varint_len.ensures.value m.tally_value m.at_value c.elements.ensures
