-- `read_decimal` goes through the run's digits. The invariant: those so far spell a value up to the maximum.
-- Each turn and each return is one law of `Turn`.
use Rattle.decimal.proofs.Turn.{Spelt}
use Rattle.decimal.proofs.read_decimal.Given as goal

abbrev pub invariant-loop-b : goal.invariant-loop-b
invariant-loop-b l = Spelt l.max l.b-items l.b-index l.value
