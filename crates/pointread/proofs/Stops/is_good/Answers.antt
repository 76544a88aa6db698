-- `is_good`: a pointer that is read names a part of the data. The rest is found by the laws `good_piece` and
-- `bad_piece`.
use mathlib.Core.Path.{sym}
use Rattle.pointread.proofs.Texts.{piece_lies}
use Rattle.pointread.proofs.Stops.is_good.Goals as goal

pub is_text-requires : goal.is_text-requires
is_text-requires c = piece_lies c.args.self.form.s.now _ (sym c.in-Ok.ensures)
