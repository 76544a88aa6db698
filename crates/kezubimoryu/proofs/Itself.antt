-- A number is shown as itself.
use Rattle.std.proofs.Common.{ℕ, ◌≡◌, refl}
use Rattle.scan.specs.Choice.{Answer, shown, refused}
use Rattle.kezubimoryu.specs.inner.Shown.{told_by}

pub by_itself : (a : Answer ℕ) → told_by (λ (n : ℕ). n) a ≡ a
by_itself (shown n) = refl
by_itself (refused n p) = refl
