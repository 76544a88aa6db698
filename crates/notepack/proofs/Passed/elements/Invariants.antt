-- `Passed::elements` passes over elements and adds them to the tally. The invariant is one equation: passing over all
-- from the start is passing over those left from here with the tally so far. Each turn is one law of `Passing`.
use Prim.Native.Nat.{◌-◌}
use mathlib.Core.Path.{◌≡◌}
use Rattle.scan.specs.Choice.{and_then}
use Rattle.notepack.specs.Unpack.{elements_at}
use Rattle.notepack.specs.inner.Tally.{pass_elements}
use Rattle.notepack.proofs.Passed.elements.Given as goal

abbrev pub invariant-loop : goal.invariant-loop
invariant-loop l =
    and_then (elements_at l.count l.s l.fn.self.at) (pass_elements l.s l.fn.self.tally)
    ≡ and_then (elements_at (l.count - l.counter) l.s l.sum.at) (pass_elements l.s l.sum.tally)
