-- `has_misfit` asks at place after place. The invariant: where none was found, all up to here fit.
use mathlib.Core.Path.{◌≡◌}
use mathlib.Core.Bool.{false}
use Rattle.utf8.specs.inner.Windows.{Fitting}
use Rattle.utf8.proofs.windows.has_misfit.Given as goal

abbrev pub invariant-loop-i : goal.invariant-loop-i
invariant-loop-i l = l.found ≡ false → Fitting l.s l.at l.i
