-- The walk from a place on keeps the stop, and at a multiple of 8 a table that is told from there on has it.
-- Each law has as premises what the code knows where it is cited.
use Prim.Native.Nat.{ℕ, ◌+◌, ◌*◌, ◌/◌, ◌%◌, ◌<◌, ◌≤◌}
use mathlib.Core.Path.{◌≡◌, refl, sym, ap, ◌∙◌}
use mathlib.Core.List.{List}
use native.Mathlib.Omega.{arith}
use lib.ListN.{length, get_or}
use Rattle.utf8.specs.inner.Width.{width_at}
use Rattle.utf8stops.specs.Stops.{stop_at}
use Rattle.utf8stops.specs.inner.Pass.{Told}
use Rattle.utf8stops.proofs.StopLaws.{stop_here, stop_step}

-- ---- the table from a place on

pub told_later : {d t : List ℕ} {a b : ℕ} → Told d a t → a ≤ b → Told d b t
told_later f h = record { each = λ j k l. f.each j (omega (arith, h, k)) l; room = f.room }

-- the entry of a multiple of 8
pub told_entry : (d t : List ℕ) (at : ℕ) → Told d at t → at % 8 ≡ 0 → at < length d → get_or t (at / 8) 0 ≡ stop_at d at
told_entry d t at f e h =
    let k : 8 * (at / 8) ≡ at = omega arith in
    f.each (at / 8) (omega arith) (omega arith) ∙ ap (λ (x : ℕ). stop_at d x) k

-- ---- the walk

-- from a place to a later one over whole sequences
pub record Walked (d : List ℕ) (at p : ℕ) : Type 0 where
  pub same : stop_at d at ≡ stop_at d p
  pub onward : at ≤ p

pub walked_none : (d : List ℕ) (at : ℕ) → Walked d at at
walked_none d at = record { same = refl; onward = omega arith }

pub walked_more : (d : List ℕ) (at p w : ℕ) → Walked d at p → w ≡ width_at d p → (w ≡ 0 → ⊥) → Walked d at (p + w)
walked_more d at p w v e n =
    record {
      same = v.same ∙ stop_step d p (λ z. n (e ∙ z)) ∙ ap (λ (x : ℕ). stop_at d (p + x)) (sym e);
      onward = omega (arith, v.onward);
    }

pub walked_stop : (d : List ℕ) (at p w : ℕ) → Walked d at p → w ≡ width_at d p → w ≡ 0 → p ≡ stop_at d at
walked_stop d at p w v e z = sym (v.same ∙ stop_here d p (sym e ∙ z))

pub ruleset walks = (walked_none, walked_more, walked_stop, told_later)
