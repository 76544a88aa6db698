-- `read_held` decodes into the scratch, asks the notepack reader of what stands there, and copies it where it is
-- accepted.
use mathlib.Core.Path.{◌∙◌}
use lib.ListN.{length-replicate}
use Rattle.event.proofs.Handed.{handed_on}
use Rattle.buffer.proofs.Places.{stands_whole}
use Rattle.stringform.specs.StringForm.{itself}
use Rattle.stringform.proofs.Steps.{held_refused, held_shown, tells}
use Rattle.stringform.proofs.read_held.Goals as goal

pub returns-in_err-read_packed : goal.returns-in_err-read_packed
returns-in_err-read_packed g c =
    let a = c.args in
    let e = c.part-bytes.ensures ∙ stands_whole (rw length-replicate c.requires.room) c.put_decoded-n.ensures in
    let k = tells itself a.out.now (held_refused a.bare _ e c.in_err-read_packed.ensures) in
    record { result_value = rw (handed_on _ c.from_residual.ensures) k.0; out_after = k.1 }

pub returns : goal.returns
returns g c =
    let e = c.part-bytes.ensures ∙ stands_whole (rw length-replicate c.requires.room) c.put_decoded-n.ensures in
    let k = held_shown c.args.bare _ e c.in_ok-read_packed.ensures in
    record {
      result_value = rw k (rw e at c.put_all.ensures.result_value);
      out_after = rw k (rw e at c.put_all.ensures.out_after);
    }
