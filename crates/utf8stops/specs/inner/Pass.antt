-- What the private functions of the backward pass promise one another. Assumes nothing.
use Rattle.std.specs.Prelude.{ℕ, ◌+◌, ◌*◌, ◌≤◌, ◌<◌, ◌≡◌, List, length, get_or}
use Rattle.utf8stops.specs.Stops.{stop_at, words}

-- the table tells the stop of every word from the place `at` on
pub record Told (d : List ℕ) (at : ℕ) (t : List ℕ) : Type 0 where
  pub each : (j : ℕ) → at ≤ 8 * j → 8 * j < length d → get_or t j 0 ≡ stop_at d (8 * j)
  pub room : words d ≤ length t

-- the n bytes from the place `at` on are there, and are ASCII
pub record Ascii (d : List ℕ) (at n : ℕ) : Type 0 where
  pub each : (i : ℕ) → i < n → get_or d (at + i) 0 < 0x80
  pub inside : at + n ≤ length d
