-- What a writer does to a lent buffer: the bytes go in one after the other, and a full buffer stays as it is. Assumes
-- nothing.
use Rattle.std.specs.Prelude.{ℕ, ◌+◌, ◌≡◌, List, [], ◌∷◌, length, set, ltb}
use Rattle.scan.specs.Choice.{pick}

-- a buffer's bytes, and the place where the next byte goes
abbrev pub Buffer : Type 0
Buffer = List ℕ × ℕ

-- one byte: stored where there is room for it, and else nothing changes
abbrev pub put : Buffer → ℕ → Buffer
put b v = pick (ltb b.1 (length b.0)) (set b.0 b.1 v, b.1 + 1) b

-- the bytes vs, one after the other
abbrev pub puts : Buffer → List ℕ → Buffer
puts b [] = b
puts b (v ∷ vs) = puts (put b v) vs

-- The promise of every writer: at `at` it turned the bytes d into d' by writing vs, and its result r is the place
-- behind them.
pub record Wrote (d : List ℕ) (at : ℕ) (vs : List ℕ) (d' : List ℕ) (r : ℕ) : Type 0 where
  pub is : (d', r) ≡ puts (d, at) vs
