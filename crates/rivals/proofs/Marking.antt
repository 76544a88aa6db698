-- What a `Result` was before `map_err` marked its error: from what it is behind it.
-- Case by case.
use mathlib.Core.Path.{◌≡◌, refl}
use Rattle.std.specs.Prelude.{Result, Ok, Err}
use Rattle.std.specs.Result.{MatchResult, IsErrAnd}

module _ {A E F : Type 0} (mark : E → F) where
  pub was_ok : (r : Result A E) {x : Result A F} {v : A} → MatchResult r (λ a. x ≡ Ok a) (λ e. IsErrAnd x (λ f. f ≡ mark e)) → x ≡ Ok v → r ≡ Ok v
  was_ok (Ok a) h e = cc
  was_ok (Err d) {x} {v} h e = absurd (rw e at h)

  pub was_err : (r : Result A E) {x : Result A F} {w : F} → MatchResult r (λ a. x ≡ Ok a) (λ e. IsErrAnd x (λ f. f ≡ mark e)) → x ≡ Err w
      → (d : E) × (r ≡ Err d) × (w ≡ mark d)
  was_err (Ok a) {x} {w} h e = absurd cc
  was_err (Err d) {x} {w} h e = (d, refl, rw e at h)
