-- What the fast pass in front of the rows promises: how far a text surely is well-formed. Every promise is one-sided:
-- it says what holds where nothing misfits, and nothing where something does. `WindowLaws.reach` shows that a text is
-- well-formed up to a place where its bytes fit. Assumes nothing.
use Rattle.std.specs.Prelude.{ℕ, ◌+◌, ◌/◌, ◌≤◌, ◌<◌, ◌≡◌, List, ◌∷◌, length, take}
use Rattle.scan.specs.Place.{byte_at}
use Rattle.utf8.specs.Utf8.{Utf8}

-- a text is well-formed up to place b
pub record WellTo (s : List ℕ) (b : ℕ) : Type 0 where
  pub inside : b ≤ length s
  pub whole : Utf8 (take b s)

-- no byte is above n
pub record Most (s : List ℕ) (n : ℕ) : Type 0 where
  pub most : (i : ℕ) → byte_at s i ≤ n

-- d can stand behind a, b, c
pub record Fits (a b c d : ℕ) : Type 0 where
  -- it is a tail exactly if a first byte of two, three or four asks for one
  pub level : d / 128 ≡ d / 192 + c / 192 + b / 224 + a / 240
  -- it is not C0, C1, F5 to FF
  pub long : d / 2 ≡ 0x60 → ⊥
  pub low : d < 0xF5
  -- it makes no overlong form, no surrogate and nothing past 10FFFF
  pub behind_e0 : c ≡ 0xE0 → 0xA0 ≤ d
  pub behindED : c ≡ 0xED → d ≤ 0x9F
  pub behind_f0 : c ≡ 0xF0 → 0x90 ≤ d
  pub behind_f4 : c ≡ 0xF4 → d ≤ 0x8F

-- in every window of four bytes that begins at a place from a to e the last one fits
pub record Fitting (l : List ℕ) (a e : ℕ) : Type 0 where
  pub fits : (i : ℕ) → a ≤ i → i < e → Fits (byte_at l i) (byte_at l (i + 1)) (byte_at l (i + 2)) (byte_at l (i + 3))

-- before a text stand three 0, so that its first three bytes have windows too
abbrev pub padded : List ℕ → List ℕ
padded s = 0 ∷ 0 ∷ 0 ∷ s
