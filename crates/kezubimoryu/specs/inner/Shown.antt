-- What is shown, by the number that C gets for it; a refusal stays. Assumes nothing.
use Rattle.std.specs.Prelude.{ℕ}
use Rattle.scan.specs.Choice.{Answer, shown, refused}

abbrev pub told_by : {A : Type 0} → (A → ℕ) → Answer A → Answer ℕ
told_by f (shown a) = shown (f a)
told_by f (refused n p) = refused n p
