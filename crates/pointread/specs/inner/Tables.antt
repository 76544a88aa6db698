-- What the reader's two tables tell of the data, and what is asked of one of its words. Assumes nothing.
use Rattle.std.specs.Prelude.{ℕ, zero, suc, ◌+◌, ◌*◌, ◌-◌, ◌/◌, ◌%◌, ◌≤◌, ◌<◌, ◌≡◌, Bool, true, false, List, length, get_or}
use Rattle.scan.specs.Choice.{pick, Answer, shown, refused}
use Rattle.utf8stops.specs.Stops.{stop_at}
use Rattle.notepack.specs.declared.Part.{Part}
use Rattle.pointer.specs.Pointer.{data_size, pointed_text}
use Rattle.pointer.specs.inner.Data.{data_in}

-- a part lies in the data, from a multiple of 8 on
pub record Lies (s : List ℕ) (p : Part) : Type 0 where
  pub from : 72 ≤ p.at
  pub even : (p.at - 72) % 8 ≡ 0
  pub ends : p.at - 72 + p.len ≤ data_size s

-- the first table, in the whole bytes of a form: where the texts stop that start at each word; a v1 asks none
pub record Stopped (version : ℕ) (s t : List ℕ) : Type 0 where
  pub each : (version ≡ 1 → ⊥) → (j : ℕ) → 8 * j < data_size s → get_or t j 0 ≡ stop_at (data_in s) (8 * j)
  pub room : (data_size s + 7) / 8 ≤ length t
  pub whole : 168 ≤ length s

abbrev pub is_shown : {A : Type 0} → Answer A → Bool
is_shown (shown a) = true
is_shown (refused n p) = false

-- word i of the data points to a text
unfoldable pub is_good : ℕ → List ℕ → ℕ → Bool
is_good version s i = is_shown (pointed_text version s (72 + 8 * i))

-- the first of k words from i on that does not; the word behind them where each does
unfoldable pub bad_from : ℕ → List ℕ → ℕ → ℕ → ℕ
bad_from version s zero i = i
bad_from version s (suc k) i = pick (is_good version s i) (bad_from version s k (i + 1)) i

-- the second table, from word i on: the first of the n words that does not, from each word on
pub record Filled (version : ℕ) (s : List ℕ) (n i : ℕ) (t : List ℕ) : Type 0 where
  pub each : (j : ℕ) → i ≤ j → j < n → get_or t j 0 ≡ bad_from version s (n - j) j
  pub long : n ≤ length t
