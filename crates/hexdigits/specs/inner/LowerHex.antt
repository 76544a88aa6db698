-- A lowercase hex digit, for the laws of `all_digits`. Assumes nothing.
use Rattle.std.specs.Prelude.{ℕ, ◌≤◌}

-- 0-9 a-f, and no other byte
pub data LowerHex : ℕ → Type 0 where
  number : {b : ℕ} → 48 ≤ b → b ≤ 57 → LowerHex b
  letter : {b : ℕ} → 97 ≤ b → b ≤ 102 → LowerHex b
