-- `Field::all_tag_counts` passes over the counts of n tags. The invariant is one equation: the place behind all is the
-- place behind those that are left.
-- A turn is one law of `Counting`.
use Rattle.std.proofs.Common.{◌≡◌, ◌-◌}
use Rattle.scan.specs.Choice.{many}
use Rattle.nson.specs.Read.{tag_counts_at}
use Rattle.nsoncounts.specs.inner.Counted.{next_of}
use Rattle.nsoncounts.proofs.Field.all_tag_counts.Given as goal

abbrev pub invariant-loop : goal.invariant-loop
invariant-loop l =
    next_of (many (tag_counts_at l.self.end l.self.s.now) l.n l.at) ≡ next_of (many (tag_counts_at l.self.end l.self.s.now) (l.n - l.counter) l.i)
