-- `counted_tags` sums up the lengths of the tags' strict forms. The invariant is one equation: all tags are those that
-- are left, with what was summed up.
-- A turn is one law of `Turns`. A tag is at most `tag_most` bytes long and has at most 255 counts, so nothing passes a
-- word.
use Prim.Native.Nat.{◌+◌, ◌*◌, ◌-◌, ◌≤◌}
use mathlib.Core.Path.{◌≡◌}
use mathlib.Core.Bool.{false}
use Rattle.std.proofs.Common.{nat_lt}
use Rattle.nsonwalk.specs.inner.Walk.{tag_most}
use Rattle.nsonwalk.proofs.Turns.{tags_left}
use Rattle.nsonwalk.proofs.counted_tags.Given as goal

abbrev pub invariant-loop-i : goal.invariant-loop-i
invariant-loop-i l = record {
  counts : l.place + 1022 * (l.n - l.i) ≤ 328 + 1022 * l.n;
  room : l.total + tag_most * (l.n - l.i) ≤ tag_most * l.n;
  left : tags_left l.s 0 false l.n 328 l.initial.next ≡ tags_left l.s l.total (nat_lt 0 l.i) (l.n - l.i) l.place l.next;
}
