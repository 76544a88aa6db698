-- `walk_texts`: the texts from the start on are as good as those from here on.
-- The turns are the laws `texts_more`, `texts_bad` and `texts_done`.
use Prim.Native.Nat.{◌+◌, ◌*◌, ◌-◌}
use mathlib.Core.Path.{◌≡◌}
use Rattle.pointfields.specs.inner.Answers.{number_of}
use Rattle.pointread.specs.inner.Walk.{texts_fault}
use Rattle.pointread.proofs.Table.walk_texts.Given as goal

abbrev pub invariant-loop-i : goal.invariant-loop-i
invariant-loop-i l = texts_fault (number_of l.self.form.version) l.self.form.s.now l.self.n l.self.at ≡ texts_fault (number_of l.self.form.version) l.self.form.s.now (l.self.n - l.i) (l.self.at + 8 * l.i)
