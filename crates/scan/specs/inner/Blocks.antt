-- What a loop over a block counts: bytes, neighbours, and the bytes before the first that stops. Assumes nothing.
use Rattle.std.specs.Prelude.{ℕ, suc, ◌+◌, Bool, List, [], ◌∷◌, ltb, eqb}
use Rattle.scan.specs.Choice.{pick}

-- 1 where b is x, and else 0
unfoldable pub is_one : ℕ → ℕ → ℕ
is_one b x = pick (eqb b x) 1 0

-- 1 where b is a control byte, and else 0
unfoldable pub control_count : ℕ → ℕ
control_count b = pick (ltb b 0x20) 1 0

-- a sum over the bytes
unfoldable pub sum_of : (ℕ → ℕ) → List ℕ → ℕ
sum_of f [] = 0
sum_of f (b ∷ l) = f b + sum_of f l

-- a sum over neighbours: f of each byte and the one before it; p stands before the first
unfoldable pub neighbours : (ℕ → ℕ → ℕ) → ℕ → List ℕ → ℕ
neighbours f p [] = 0
neighbours f p (b ∷ l) = f p b + neighbours f b l

-- how many bytes stand before the first that stops
unfoldable pub before_stop : (ℕ → Bool) → List ℕ → ℕ
before_stop stops [] = 0
before_stop stops (b ∷ l) = pick (stops b) 0 (suc (before_stop stops l))
