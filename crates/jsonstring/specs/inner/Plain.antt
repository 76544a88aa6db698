-- Plain ASCII in a string: what a block counts, how far it goes, which strings are short and plain. Assumes nothing.
use Rattle.std.specs.Prelude.{ℕ, ◌+◌, ◌≤◌, ◌<◌, min, ◌≡◌, Bool, true, false, List, length, get_or, take, drop, ltb, leb, eqb}
use Rattle.scan.specs.Choice.{pick}
use Rattle.scan.specs.Place.{byte_at}
use Rattle.scan.specs.inner.Blocks.{before_stop}
use Rattle.jsontext.specs.inner.Escape.{unescape}
use Rattle.jsonstring.specs.declared.Text.{Text}
use Rattle.jsonstring.specs.declared.Text.TheVariants as text

-- a control byte, a quote, a backslash or a byte above ASCII
unfoldable pub is_special : ℕ → Bool
is_special b = pick (ltb b 0x20) true (pick (eqb b 0x22) true (pick (eqb b 0x5C) true (leb 0x80 b)))

-- from place a to place b no byte is special
pub record PlainTo (s : List ℕ) (a b : ℕ) : Type 0 where
  pub onward : a ≤ b
  pub inside : b ≤ length s
  pub plain : (k : ℕ) → a ≤ k → k < b → is_special (get_or s k 0) ≡ false

-- the end of the plain bytes from a place on, of 80 at most
unfoldable pub plain_end : List ℕ → ℕ → ℕ
plain_end s at = at + min 80 (before_stop is_special (drop at s))

-- whether a string at a place is at most 80 plain bytes
unfoldable pub is_short_plain : List ℕ → ℕ → Bool
is_short_plain s at = pick (eqb (byte_at s at) 0x22) (eqb (byte_at s (plain_end s (at + 1))) 0x22) false

-- exactly those strings are told to be plain, and each is its own text
abbrev pub PlainText : List ℕ → ℕ → Text → Type 0
PlainText s at (text.Plain p) = (is_short_plain s at ≡ true) × (unescape (take p.count (drop p.from s)) ≡ take p.count (drop p.from s))
PlainText s at (text.Other p) = is_short_plain s at ≡ false
