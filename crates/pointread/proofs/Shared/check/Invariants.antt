-- `check`: the tags from the start on are as good as those from here on.
-- The turns are the laws `tags_more`, `tags_bad` and `tags_done`.
use Prim.Native.Nat.{◌+◌, ◌*◌, ◌-◌}
use mathlib.Core.Path.{◌≡◌}
use Rattle.pointfields.specs.inner.Answers.{number_of}
use Rattle.pointread.specs.inner.Walk.{tags_fault}
use Rattle.pointread.proofs.Shared.check.Given as goal

abbrev pub invariant-loop-i : goal.invariant-loop-i
invariant-loop-i l = tags_fault (number_of l.self.table.form.version) l.self.table.form.s.now l.self.table.n l.self.table.at ≡ tags_fault (number_of l.self.table.form.version) l.self.table.form.s.now (l.self.table.n - l.i) (l.self.table.at + 8 * l.i)
