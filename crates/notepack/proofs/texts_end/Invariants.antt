-- `texts_end` passes n texts. The invariant is one equation: the end from the start is that from here.
-- Each turn is a law of going over texts again.
use Prim.Native.Nat.{◌-◌}
use mathlib.Core.Path.{◌≡◌}
use Rattle.notepack.specs.inner.Again.{texts_end}
use Rattle.notepack.proofs.texts_end.Given as goal

abbrev pub invariant-loop : goal.invariant-loop
invariant-loop l = texts_end l.n l.s l.at ≡ texts_end (l.n - l.counter) l.s l.i
