-- `measure_texts` adds the lengths of the texts that the table names, and leaves early once they pass 65,536.
-- The invariant: what was gathered and the texts left make the whole sum, and what was gathered is within the limit.
use Prim.Native.Nat.{◌+◌, ◌*◌, ◌-◌, ◌≤◌}
use mathlib.Core.Path.{◌≡◌}
use lib.ListN.{length}
use Rattle.notepack.specs.Strict.{pack_elements}
use Rattle.pointer.specs.inner.Again.{texts_from}
use Rattle.pointconvert.proofs.Table.measure_texts.Given as goal

abbrev pub invariant-loop-i : goal.invariant-loop-i
invariant-loop-i l =
    (l.total + length (pack_elements (texts_from (l.self.n - l.i) l.self.s.now (l.self.at + 8 * l.i))) ≡ l.initial.total + length (pack_elements (texts_from l.self.n l.self.s.now l.self.at))) × (l.total ≤ 65_536)
