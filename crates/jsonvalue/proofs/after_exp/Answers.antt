-- An e stands within the input, so that the place behind it fits.
use Rattle.scan.proofs.Fits.{flag_fits}
use Rattle.jsontext.specs.Token.{is_e}
use Rattle.jsonvalue.proofs.after_exp.Goals as goal

pub overflow_add-at : goal.overflow_add-at
unfolding is_e
overflow_add-at c = search (flag_fits is_e)
