-- That an answer shows a number is so in one way at most, as a ghost field asks of what it says. Assumes nothing.
use Rattle.std.specs.Prelude.{ℕ, ◌≡◌, ◌⊎◌}
use mathlib.Core.Path.{refl}
use mathlib.Core.Logic.{inl, inr}
use Rattle.std.specs.Coded.{Coded-set, code_by, coded_ℕ, coded×, coded⊎}
use Rattle.scan.specs.Choice.{Answer, shown, refused}

abbrev parts : Answer ℕ → ℕ ⊎ (ℕ × ℕ)
parts (shown v) = inl v
parts (refused n p) = inr (n, p)

abbrev whole : ℕ ⊎ (ℕ × ℕ) → Answer ℕ
whole (inl v) = shown v
whole (inr r) = refused r.0 r.1

same : (a : Answer ℕ) → whole (parts a) ≡ a
same (shown v) = refl
same (refused n p) = refl

pub shown_once : (a : Answer ℕ) (v : ℕ) → IsProp (a ≡ shown v)
shown_once a v = Coded-set (code_by (ℕ ⊎ (ℕ × ℕ)) (coded⊎ coded_ℕ (coded× coded_ℕ coded_ℕ)) parts whole same) a (shown v)
