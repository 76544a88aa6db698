-- Bytes at a place of an input: one byte, a fixed byte string, a run. Assumes nothing.
use Rattle.std.specs.Prelude.{ℕ, ◌+◌, Bool, true, false, List, [], ◌∷◌, get_or, drop, leb, eqb}
use Rattle.scan.specs.Choice.{pick}

-- the byte at a place, and 0 past the end
abbrev pub byte_at : List ℕ → ℕ → ℕ
byte_at s at = get_or s at 0

-- l begins with w
unfoldable pub begins : List ℕ → List ℕ → Bool
begins [] l = true
begins (b ∷ w) [] = false
begins (b ∷ w) (c ∷ l) = pick (eqb b c) (begins w l) false

-- the bytes of s from `at` begin with w
unfoldable pub stands_at : List ℕ → List ℕ → ℕ → Bool
stands_at w s at = begins w (drop at s)

-- from low to high, both included
unfoldable pub within : ℕ → ℕ → ℕ → Bool
within low high b = pick (leb low b) (leb b high) false

-- the end of the run of bytes of l that pass the test p, where l's first byte has the place `at`
unfoldable pub run : (ℕ → Bool) → List ℕ → ℕ → ℕ
run p [] at = at
run p (b ∷ l) at = pick (p b) (run p l (at + 1)) at

-- the end of the run of bytes of s that pass p, from `at` on
unfoldable pub run_at : (ℕ → Bool) → List ℕ → ℕ → ℕ
run_at p s at = run p (drop at s) at
