-- The id belongs exactly if it is the digest of the canonical text.
-- As for the strict question: by the comparison of bytes.
use Prim.Native.Nat.{ℕ}
use mathlib.Core.Path.{◌≡◌, refl, ap, ◌∙◌}
use mathlib.Core.Bool.{true}
use mathlib.Core.List.{List}
use mathlib.Core.Logic.{◌↔◌}
use native.Mathlib.Omega.{arith}
use Rattle.scan.specs.Choice.{Answer, shown, refused, and_then}
use Rattle.scan.specs.Compare.{same_bytes}
use Rattle.scan.proofs.CompareLaws.{same_same, bytes_same}
use Rattle.event.specs.Event.{Event}
use Rattle.notepack.specs.Unpack.{unpack}
use Rattle.canonical.specs.Canonical.{canonical}
use Rattle.sha256.specs.Message.{digest}
use Rattle.identity.specs.Identity.{belongs}

pub belongs_exactly : (s : List ℕ) → (belongs s ≡ shown true) ↔ ((e : Event) × (unpack s ≡ shown e) × (e.id ≡ digest (canonical e)))
unfolding belongs
belongs_exactly s = (λ h. there (unpack s) refl h, λ p. back p.0 p.1 p.2)
  where
    there : (r : Answer Event) → unpack s ≡ r → and_then r (λ (e : Event). shown (same_bytes e.id (digest (canonical e)))) ≡ shown true
        → (e : Event) × (unpack s ≡ shown e) × (e.id ≡ digest (canonical e))
    there (shown e) u h = let t : same_bytes e.id (digest (canonical e)) ≡ true = cc in (e, u, bytes_same e.id (digest (canonical e)) t)
    there (refused n q) u h = let z : ◌≡◌ {A = ℕ} 0 1 = cc in absurd (omega arith)

    back : (e : Event) → unpack s ≡ shown e → e.id ≡ digest (canonical e) → and_then (unpack s) (λ (x : Event). shown (same_bytes x.id (digest (canonical x)))) ≡ shown true
    back e u q = rw u (ap shown (ap (λ (l : List ℕ). same_bytes l (digest (canonical e))) q ∙ same_same (digest (canonical e))))
