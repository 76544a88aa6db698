-- A text that is handed out in chunks: from place i on it is a chunk x of n bytes, and the rest y. A sum over it is
-- that of the chunk and that of the rest.
-- By the library's laws of a list in two parts.
use Prim.Native.Nat.{ℕ, ◌+◌, ◌<◌, ◌≤◌}
use mathlib.Core.Path.{◌≡◌, sym, ap, ◌∙◌}
use mathlib.Core.List.{List, [], ◌∷◌, ◌++◌}
use native.Mathlib.Omega.{arith}
use lib.ListN.{length, get_or, drop, length-drop, length-append, get_or-append}
use lib.Seq.{get_or-drop, drop-drop, drop-append_seam}
use Rattle.scan.specs.inner.Blocks.{sum_of}

module _ (s : List ℕ) (i n : ℕ) (x y : List ℕ) (cut : drop i s ≡ x ++ y) (h : length x ≡ n) where
  -- the rest stands behind it
  pub chunk_rest : y ≡ drop (i + n) s
  chunk_rest = rw (← h) (sym (sym (drop-drop (length x) i s) ∙ ap (drop (length x)) cut ∙ drop-append_seam x y))

  -- it ends within the text
  pub chunk_inside : i ≤ length s → i + n ≤ length s
  chunk_inside l = omega (arith, length-drop i s, simp length-append at (ap length cut))

  -- its bytes are the text's
  pub chunk_byte : (k : ℕ) → k < n → get_or s (i + k) 0 ≡ get_or x k 0
  chunk_byte k l = sym (get_or-drop i s k 0) ∙ ap (λ (l : List ℕ). get_or l k 0) cut ∙ get_or-append x y 0 k (omega arith)

sum_append : (f : ℕ → ℕ) (x y : List ℕ) → sum_of f (x ++ y) ≡ sum_of f x + sum_of f y
unfolding sum_of
sum_append f [] y = omega arith
sum_append f (b ∷ x) y = omega (arith, sum_append f x y)

-- a chunk more is counted
pub sum_chunk : (f : ℕ → ℕ) (l : List ℕ) (n h : ℕ) → n + sum_of f l ≡ h → (x y : List ℕ) {m : ℕ} → l ≡ x ++ y → m ≡ sum_of f x → n + m + sum_of f y ≡ h
sum_chunk f l n h v x y cut e = omega (arith, v, e, ap (sum_of f) cut ∙ sum_append f x y)
