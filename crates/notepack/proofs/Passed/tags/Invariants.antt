-- `Passed::tags` passes over tags and adds them to the tally. The invariant is one equation: passing over all from the
-- start is passing over those left from here with the tally so far. Each turn is one law of `Passing`.
use Prim.Native.Nat.{◌-◌}
use mathlib.Core.Path.{◌≡◌}
use Rattle.scan.specs.Choice.{and_then}
use Rattle.notepack.specs.Unpack.{tags_standing}
use Rattle.notepack.specs.inner.Tally.{pass_tags}
use Rattle.notepack.proofs.Passed.tags.Given as goal

abbrev pub invariant-loop : goal.invariant-loop
invariant-loop l =
    and_then (tags_standing l.count l.s l.fn.self.at) (pass_tags l.s l.fn.self.tally)
    ≡ and_then (tags_standing (l.count - l.counter) l.s l.sum.at) (pass_tags l.s l.sum.tally)
