-- `fill_bad` goes backwards. The invariant: the table tells the first bad word from each word from i on.
-- A turn is `bad_before` and `fill_more`.
use Prim.Native.Nat.{◌-◌}
use mathlib.Core.Path.{◌≡◌}
use Rattle.pointfields.specs.inner.Answers.{number_of}
use Rattle.pointread.specs.inner.Tables.{bad_from, Filled}
use Rattle.pointread.proofs.Stops.fill_bad.Given as goal

abbrev pub invariant-loop-i : goal.invariant-loop-i
invariant-loop-i l = Filled (number_of l.self.form.version) l.self.form.s.now l.n l.i l.bad × (l.first ≡ bad_from (number_of l.self.form.version) l.self.form.s.now (l.n - l.i) l.i)
