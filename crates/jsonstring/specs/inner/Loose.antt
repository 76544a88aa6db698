-- What the fast way through a string promises: bare bytes and escapes from place to place, with no look at UTF-8.
-- Assumes nothing.
use Rattle.std.specs.Prelude.{ℕ, ◌+◌, ◌-◌, ◌≤◌, ◌<◌, ◌≡◌, List, length, eqb}
use Rattle.scan.specs.Choice.{pick}
use Rattle.scan.specs.Place.{byte_at}
use Rattle.jsontext.specs.inner.Escape.{escape_at}
use Rattle.scan.specs.inner.Blocks.{is_one, control_count}

-- from place a to place e bare bytes and escapes stand: a bare byte is no control byte, no quote and no backslash, and
-- may be above ASCII
pub data LooseTo (s : List ℕ) : ℕ → ℕ → Type 0 where
  nothing : {a : ℕ} → LooseTo s a a
  bare : {a e : ℕ} → a < length s → 0x20 ≤ byte_at s a → (byte_at s a ≡ 0x22 → ⊥) → (byte_at s a ≡ 0x5C → ⊥) → LooseTo s (a + 1) e → LooseTo s a e
  escape : {a e : ℕ} → a < length s → byte_at s a ≡ 0x5C → ((escape_at s a).width ≡ 0 → ⊥) → LooseTo s (a + (escape_at s a).width) e → LooseTo s a e

-- 0 where b may stand behind p: behind a backslash n or a quote, behind any other byte neither a quote nor a control
-- byte
unfoldable pub clash_of : ℕ → ℕ → ℕ
clash_of p b = pick (eqb p 0x5C) (1 - is_one b 0x6E - is_one b 0x22) (is_one b 0x22 + control_count b)
