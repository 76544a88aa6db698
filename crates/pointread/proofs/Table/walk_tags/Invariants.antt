-- `walk_tags`: the tags from the start on are as good as those from here on.
-- The turns are the laws `fault_more`, `fault_bad` and `tags_done`.
use Prim.Native.Nat.{◌+◌, ◌*◌, ◌-◌}
use mathlib.Core.Path.{◌≡◌}
use Rattle.pointfields.specs.inner.Answers.{number_of}
use Rattle.pointread.specs.inner.Walk.{tags_fault}
use Rattle.pointread.proofs.Table.walk_tags.Given as goal

abbrev pub invariant-loop-i : goal.invariant-loop-i
invariant-loop-i l = tags_fault (number_of l.self.form.version) l.self.form.s.now l.self.n l.self.at ≡ tags_fault (number_of l.self.form.version) l.self.form.s.now (l.self.n - l.i) (l.self.at + 8 * l.i)
