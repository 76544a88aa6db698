-- Demand 3, whole.
-- Each sentence by its own law.
use Rattle.agreement.specs.Demand3.{NeverTwo, BothAccept, FieldIgnored, GivenRoom, SameNeed, NeedEnough, TextEnough, NoLie, CountsFollowed, WriterWrites, OrNothing, WriterRefusals, ReadBack}
use Rattle.agreement.proofs.Agree.{never_two, both_accept}
use Rattle.agreement.proofs.Ignored.{field_ignored}
use Rattle.agreement.proofs.Room.{given_room, same_need, need_enough}
use Rattle.agreement.proofs.Shorter.{text_enough}
use Rattle.agreement.proofs.Counts.{no_lie, counts_followed}
use Rattle.agreement.proofs.Writer.{writer_writes, or_nothing, writer_refusals, read_back}

-- all its sentences
pub record Demand3 : Type 0 where
  pub never_two : NeverTwo
  pub both_accept : BothAccept
  pub field_ignored : FieldIgnored
  pub given_room : GivenRoom
  pub same_need : SameNeed
  pub need_enough : NeedEnough
  pub text_enough : TextEnough
  pub no_lie : NoLie
  pub counts_followed : CountsFollowed
  pub writer_writes : WriterWrites
  pub or_nothing : OrNothing
  pub writer_refusals : WriterRefusals
  pub read_back : ReadBack

-- THE demand
pub demand_3 : Demand3
demand_3 =
    record {
      never_two = never_two;
      both_accept = both_accept;
      field_ignored = field_ignored;
      given_room = given_room;
      same_need = same_need;
      need_enough = need_enough;
      text_enough = text_enough;
      no_lie = no_lie;
      counts_followed = counts_followed;
      writer_writes = writer_writes;
      or_nothing = or_nothing;
      writer_refusals = writer_refusals;
      read_back = read_back;
    }
