-- `Span s a l c`: the bytes of s from place a to place c are l. The one relation through which every grammar is tied to
-- a reader. Assumes nothing.
use Rattle.std.specs.Prelude.{ℕ, ◌+◌, ◌<◌, ◌≡◌, List, [], ◌∷◌, length, get_or}

pub data Span (s : List ℕ) : ℕ → List ℕ → ℕ → Type 0 where
  here : {a : ℕ} → Span s a [] a
  step : {a b c : ℕ} {l : List ℕ} → a < length s → get_or s a 0 ≡ b → Span s (a + 1) l c → Span s a (b ∷ l) c
