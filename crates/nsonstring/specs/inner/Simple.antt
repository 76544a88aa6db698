-- Texts whose escapes are \n and \" alone: what a byte and the one before it add to the sums that tell. Assumes
-- nothing.
use Rattle.std.specs.Prelude.{ℕ, ◌+◌, ◌-◌, ◌/◌, ◌<◌, ◌≡◌, List, length, get_or, drop}
use Rattle.scan.specs.inner.Blocks.{is_one, neighbours}
use Rattle.jsonstring.specs.inner.Loose.{clash_of}

-- a backslash before, and a byte above ASCII
unfoldable pub slash_of : ℕ → ℕ → ℕ
slash_of p b = is_one p 0x5C

unfoldable pub high_of : ℕ → ℕ → ℕ
high_of p b = b / 128

-- no byte clashes with the one before it, the first as behind a space; the last is no backslash; and the sums of the
-- other two
pub record Simple (t : List ℕ) (slashes high : ℕ) : Type 0 where
  pub clashes : neighbours clash_of 0x20 t ≡ 0
  pub ended : get_or t (length t - 1) 0 ≡ 0x5C → ⊥
  pub escapes : slashes ≡ neighbours slash_of 0x20 t
  pub above : high ≡ neighbours high_of 0x20 t

-- a count with what a block adds that is lent with the byte before it as its first, and in which no byte clashes
pub record Grown (block : List ℕ) (slashes high more_slashes more_high : ℕ) : Type 0 where
  pub clashes : neighbours clash_of (get_or block 0 0) (drop 1 block) ≡ 0
  pub escapes : more_slashes ≡ slashes + neighbours slash_of (get_or block 0 0) (drop 1 block)
  pub above : more_high ≡ high + neighbours high_of (get_or block 0 0) (drop 1 block)
  pub few : more_slashes < slashes + length block
  pub fewer : more_high < high + length block
