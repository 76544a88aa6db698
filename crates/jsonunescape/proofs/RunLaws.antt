-- Runs, the bytes up to the next backslash: chunks are passed whole, and what is left byte by byte.
-- A chunk none of whose bytes is a backslash goes on with the run.
use Prim.Native.Nat.{ℕ, zero, suc, ◌+◌, ◌-◌, ◌<◌, ◌≤◌}
use mathlib.Core.Path.{◌≡◌, refl, sym, ap, ◌∙◌}
use mathlib.Core.Bool.{Bool, true, false}
use mathlib.Core.List.{List, ◌++◌}
use native.Mathlib.Nat.{add-zero}
use native.Mathlib.Omega.{arith}
use lib.ListN.{length, get_or, take, drop}
use lib.Seq.{take_all}
use lib.Dec.{eqb}
use borrow.Author.Tests.{eq-eqb, ne_eqb}
use Rattle.scan.proofs.Step.{false_true}
use Rattle.scan.specs.inner.Blocks.{sum_of}
use Rattle.scan.proofs.BlockLaws.{not_one, block_none}
use Rattle.scan.proofs.PlaceLaws.{run_again, run_left, run_broke, run_counted}
use Rattle.jsonunescape.specs.inner.Run.{backslash_at, no_backslash, is_slash, stop_of}
use Rattle.scan.specs.Place.{run_at}
use Rattle.scan.proofs.Chunks.{chunk_inside, chunk_byte}
use Rattle.std.specs.List.{list_any, prefix_len}
use Rattle.std.proofs.lemmas.List.Folds.{list_any_at}

-- ---- bytes that are no backslash

module _ (s : List ℕ) (at i : ℕ) where
  plain_again : backslash_at s at ≡ backslash_at s i → i < length s → (get_or s i 0 ≡ 0x5C → ⊥) → backslash_at s at ≡ backslash_at s (i + 1)
  unfolding backslash_at no_backslash
  plain_again v h n = run_again no_backslash s at i true v h (sym (rw (ne_eqb (get_or s i 0) 0x5C n))) refl

  pub plain_left : backslash_at s at ≡ backslash_at s i → length s ≤ i → i ≡ backslash_at s at
  unfolding backslash_at
  plain_left v h = run_left no_backslash s at i v h

  pub plain_broke : backslash_at s at ≡ backslash_at s i → i < length s → get_or s i 0 ≡ 0x5C → i ≡ backslash_at s at
  unfolding backslash_at no_backslash
  plain_broke v h e = run_broke no_backslash s at i false v h (sym (rw (eq-eqb (get_or s i 0) 0x5C e))) refl

-- ---- blocks

-- a chunk none of whose bytes is a backslash is passed
run_chunk : (t : List ℕ) (at i n : ℕ) (x y : List ℕ) → backslash_at t at ≡ backslash_at t i → i ≤ length t → drop i t ≡ x ++ y → length x ≡ n
    → ((k : ℕ) → k < n → get_or x k 0 ≡ 0x5C → ⊥) → backslash_at t at ≡ backslash_at t (i + n)
run_chunk t at i n x y v h cut l none = go n (omega arith)
  where
    inside : i + n ≤ length t
    inside = chunk_inside t i n x y cut l h

    no_slash : (m : ℕ) → m < n → get_or t (i + m) 0 ≡ 0x5C → ⊥
    no_slash m k e = none m k (sym (chunk_byte t i n x y cut l m k) ∙ e)

    go : (m : ℕ) → m ≤ n → backslash_at t at ≡ backslash_at t (i + m)
    go zero k = rw add-zero v
    go (suc m) k =
        let f : i + suc m ≡ i + m + 1 = omega arith in
        rw f (plain_again t at (i + m) (go m (omega arith)) (omega (arith, inside)) (no_slash m (omega arith)))

-- a block with no stop, and four bytes without a backslash
no_stop : (b : ℕ) → stop_of b ≡ 0 → b ≡ 0x5C → ⊥
unfolding stop_of is_slash
no_stop b z = not_one b 0x5C (omega arith)

module _ (t : List ℕ) (at i : ℕ) (x y : List ℕ) (v : backslash_at t at ≡ backslash_at t i) (h : i ≤ length t) (cut : drop i t ≡ x ++ y) where
  pub run_block : {n : ℕ} → length x ≡ 32 → n ≡ sum_of stop_of x → n ≡ 0 → backslash_at t at ≡ backslash_at t (i + 32)
  run_block {n} l q z =
      let w : n ≡ sum_of stop_of (take (32 - 0) (drop 0 x)) = q ∙ ap (sum_of stop_of) (sym (take_all 32 x (omega arith))) in
      run_chunk t at i 32 x y v h cut l (λ k m. no_stop (get_or x k 0) (block_none stop_of x 0 32 (omega arith) w z k (omega arith) m))

  pub run_four : {r : Bool} → length x ≡ 4 → r ≡ list_any (λ b. eqb b 0x5C) x → r ≡ false → backslash_at t at ≡ backslash_at t (i + 4)
  run_four l q z =
      run_chunk t at i 4 x y v h cut l (λ k m e. false_true (sym z ∙ q ∙ list_any_at (λ b. eqb b 0x5C) x k 0 (omega arith) (rw e refl)))

-- the bytes that are left, one by one
pub run_rest : (t : List ℕ) (i : ℕ) → i + prefix_len no_backslash (drop i t) ≡ backslash_at t i
unfolding backslash_at run_at
run_rest t i = run_counted no_backslash (drop i t) i
