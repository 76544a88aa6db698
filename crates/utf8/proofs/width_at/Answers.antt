-- `width_at` asks the width of the four bytes at its place; ASCII is told before they are read, and past the end it is
-- 0.
-- The bounds are the laws `width_most` and `width_left`, said of the result.
use Prim.Native.Nat.{ℕ, ◌-◌, ◌≤◌}
use mathlib.Core.Path.{◌≡◌}
use mathlib.Core.List.{List}
use lib.ListN.{length}
use Rattle.utf8.specs.inner.Width.{width_at}
use Rattle.utf8.proofs.WidthLaws.{width_here, width_most, width_left}
use Rattle.utf8.proofs.width_at.Goals as goal

abbrev Bounded : List ℕ → ℕ → ℕ → Type 0
Bounded s at r = record {
  value : r ≡ width_at s at;
  upper_bound : r ≤ 4;
  upper_bound_2 : r ≤ length s - at;
}

bounded : (s : List ℕ) (at r : ℕ) → r ≡ width_at s at → Bounded s at r
bounded s at r e = record {
  value = e;
  upper_bound = rw e (width_most s at);
  upper_bound_2 = rw e (width_left s at);
}

-- four bytes that are there
pub returns-then-s-at-ge4 : goal.returns-then-s-at-ge4
returns-then-s-at-ge4 c =
    let a = c.args in
    bounded a.s.now a.at _ (rw (width_here a.s.now a.at c.if-s-at.false) c.width_of.ensures)

-- four bytes, those past the end being 0
pub returns : goal.returns
returns c =
    let a = c.args in
    bounded a.s.now a.at _
    (rw (width_here a.s.now a.at c.if-s-at.false, ← c.byte_at.ensures, ← c.byte_at-2.ensures, ← c.byte_at-3.ensures)
    c.width_of-2.ensures)
