-- `long_varint` reads the varint. The invariant is one equation: the answer at the start is what was gathered,
-- put in front of what the rest spells.
-- Each turn is one law of `turns`; `Held` keeps every sum and product in 64 bits.
use Prim.Native.Nat.{◌+◌, ◌-◌}
use Rattle.varint.proofs.Turn.{Held, Gathered}
use Rattle.varint.proofs.long_varint.Given as goal

abbrev pub invariant-loop-k : goal.invariant-loop-k
invariant-loop-k l = Gathered l.s l.at l.value l.scale (l.at + l.k) (9 - l.k) × Held l.value l.scale (9 - l.k)
