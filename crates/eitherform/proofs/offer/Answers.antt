-- `offer` answers what an offer of an input of either form comes to, and leaves both buffers as that does.
-- By what the offer comes to: of the bare bytes, moved; or of nothing, where the input has no start.
use mathlib.Core.Path.{sym, ap, ◌∙◌}
use Rattle.notepack.specs.Unpack.{unpack}
use Rattle.versioned.proofs.Moving.{given_none}
use Rattle.eitherform.proofs.Offering.{no_start, offered_start}
use Rattle.eitherform.proofs.offer.Goals as goal

pub returns-in-Err : goal.returns-in-Err
returns-in-Err c =
    let a = c.args in
    let e = sym c.in-Err.ensures in
    let done = c.offer.ensures in
    let v = no_start a.slots.now a.cells.now done.result_value done.slots_after done.cells_after in
    let g = given_none a.bare unpack a.s.now e in
    record {
      result_value = rw g (c.nothing_offered.ensures ∙ v.answers);
      slots_after = rw g v.slots_left;
      cells_after = rw g v.cells_left;
    }

pub returns-in-Ok : goal.returns-in-Ok
returns-in-Ok c =
    let a = c.args in
    let e = sym c.in-Ok.ensures in
    let done = c.offer-in-Ok.ensures in
    let v = offered_start a.slots.now a.cells.now a.bare a.s.now e c.from.ensures done.result_value done.slots_after done.cells_after in
    record {
      result_value = c.moved_answer.ensures ∙ v.answers;
      slots_after = v.slots_left;
      cells_after = v.cells_left;
    }
