-- `write_both` has both readers write, and tells whether what they wrote is the same.
-- By the two readers' promises.
use Rattle.bothreaders.proofs.write_both.Goals as goal

pub returns : goal.returns
returns c =
    let n = c.read_nson.ensures in
    let j = c.read_json.ensures in
    record {
      value = rw (← n.out_after, ← j.out_after) c.same_start.ensures;
      first_after = n.out_after;
      second_after = j.out_after;
    }
