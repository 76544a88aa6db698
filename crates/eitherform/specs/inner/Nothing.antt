-- What an offer of an input without a start comes to, by what an offer of no bytes comes to: 34 of the table first of
-- all, and else why the input has no start. `proofs/Offering` shows that this is the offer's answer. Assumes nothing.
use Rattle.std.specs.Prelude.{ℕ, eqb}
use Rattle.scan.specs.Choice.{pick, Answer, shown, refused}

abbrev pub nothing_offered : {A : Type 0} → Answer A → ℕ → ℕ → Answer A
nothing_offered (shown o) n p = refused n p
nothing_offered (refused m q) n p = pick (eqb m 34) (refused m q) (refused n p)
