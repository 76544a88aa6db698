-- `measure_tags` adds the lengths of the tags that the table names, and leaves early once they pass 65,536.
-- The invariant: what was gathered and the tags left make the whole sum, and what was gathered is within the limit.
use Prim.Native.Nat.{◌+◌, ◌*◌, ◌-◌, ◌≤◌}
use mathlib.Core.Path.{◌≡◌}
use lib.ListN.{length}
use Rattle.notepack.specs.Strict.{pack_tags}
use Rattle.pointer.specs.inner.Again.{tags_from}
use Rattle.pointconvert.proofs.Table.measure_tags.Given as goal

abbrev pub invariant-loop-i : goal.invariant-loop-i
invariant-loop-i l =
    (l.total + length (pack_tags (tags_from (l.self.n - l.i) l.self.s.now (l.self.at + 8 * l.i))) ≡ l.initial.total + length (pack_tags (tags_from l.self.n l.self.s.now l.self.at))) × (l.total ≤ 65_536)
