-- The table of the first bad words: one turn of the backward pass, and what an entry says of the words from there on.
-- By induction on the number of words.
use Prim.Native.Nat.{ℕ, zero, suc, ◌+◌, ◌-◌, ◌<◌, ◌≤◌}
use mathlib.Core.Path.{◌≡◌, refl, sym, ◌∙◌}
use mathlib.Core.Bool.{Bool, true, false}
use mathlib.Core.List.{List}
use mathlib.Core.Logic.{dite}
use native.Mathlib.Omega.{arith}
use native.Mathlib.Decide.{ℕ_discrete}
use lib.ListN.{length, set, length-set}
use lib.Seq.{get_or-set_same, get_or-set_other}
use Rattle.scan.specs.Choice.{pick}
use Rattle.scan.proofs.Step.{pick_by}
use Rattle.pointread.specs.inner.Tables.{is_good, bad_from, Filled}

module _ (version : ℕ) (s : List ℕ) where
  -- ---- the pass

  pub fill_none : (n : ℕ) (t : List ℕ) → n ≤ length t → Filled version s n n t
  fill_none n t h = record { each = λ j k l. absurd (omega arith); long = h }

  pub none_bad : (n : ℕ) → n ≡ bad_from version s (n - n) n
  unfolding bad_from
  none_bad n = let z : n - n ≡ 0 = omega arith in rw z

  bad_step : (k i : ℕ) → bad_from version s (suc k) i ≡ pick (is_good version s i) (bad_from version s k (i + 1)) i
  unfolding bad_from
  bad_step k i = refl

  pub bad_before : (n i : ℕ) {first r : ℕ} {g : Bool} → 0 < i → i ≤ n → first ≡ bad_from version s (n - i) i → g ≡ is_good version s (i - 1)
      → r ≡ pick g first (i - 1) → r ≡ bad_from version s (n - (i - 1)) (i - 1)
  bad_before n i h l e q p =
      let a : n - (i - 1) ≡ suc (n - i) = omega arith in
      let b : i - 1 + 1 ≡ i = omega arith in
      p ∙ sym (rw (a, bad_step (n - i) (i - 1), b, ← e, ← q))

  pub fill_more : (n i : ℕ) (t : List ℕ) {r : ℕ} → 0 < i → i ≤ n → r ≡ bad_from version s (n - (i - 1)) (i - 1) → Filled version s n i t
      → Filled version s n (i - 1) (set t (i - 1) r)
  fill_more n i t {r} h l e f =
      record {
        each =
            λ j u v.
            dite (ℕ_discrete j (i - 1))
            (λ q. rw q (get_or-set_same t (i - 1) r 0 (omega (arith, f.long)) ∙ e))
            (λ q. get_or-set_other t (i - 1) j r 0 q ∙ f.each j (omega (arith, q)) v);
        long = omega (arith, length-set t (i - 1) r, f.long);
      }

  -- ---- what an entry says

  -- each word before it is good
  pub bad_least : (k i j : ℕ) → i ≤ j → j < bad_from version s k i → is_good version s j ≡ true
  unfolding bad_from
  bad_least zero i j h l = absurd (omega arith)
  bad_least (suc k) i j h l =
      pick_by (λ (b : ℕ). (j < b → is_good version s j ≡ true)) (is_good version s i)
      (λ e m. dite (ℕ_discrete j i) (λ q. rw q e) (λ q. bad_least k (i + 1) j (omega (arith, q)) m))
      (λ e m. absurd (omega arith))
      l

  -- it stands no earlier
  pub bad_from_lem : (k i : ℕ) → i ≤ bad_from version s k i
  unfolding bad_from
  bad_from_lem zero i = omega arith
  bad_from_lem (suc k) i =
      let rest = bad_from_lem k (i + 1) in
      pick_by (λ (b : ℕ). i ≤ b) (is_good version s i) (λ e. omega arith) (λ e. omega arith)

  -- it is bad, where it is one of the words
  pub bad_first : (k i : ℕ) → bad_from version s k i < i + k → is_good version s (bad_from version s k i) ≡ false
  unfolding bad_from
  bad_first zero i l = absurd (omega arith)
  bad_first (suc k) i l =
      pick_by (λ (b : ℕ). (b < i + suc k → is_good version s b ≡ false)) (is_good version s i)
      (λ e m. bad_first k (i + 1) (omega arith))
      (λ e m. e)
      l
