-- A varint as it is read at a place: its value and the place behind it, or refusal 2, 3, 4 or 24 at the varint (rules
-- 2).
-- Assumes nothing.
use Rattle.std.specs.Prelude.{ℕ, zero, suc, ◌+◌, ◌*◌, ◌-◌, List, [], ◌∷◌, length, drop, ltb, leb, eqb}
use Rattle.scan.specs.Choice.{pick, Answer, refused, Read, read}

-- what the bytes of a list spell from its start: a number in so many bytes; more bytes than the number needs; more than
-- 64 bits hold; or no last byte
pub data Spelled : Type 0 where
  number : (value width : ℕ) → Spelled
  padded : Spelled
  over : Spelled
  cut : Spelled

-- one byte more in front: its seven bits are the lowest. In front of a 0 it is not needed: the number is padded.
abbrev pub carry : ℕ → Spelled → Spelled
carry b (number n w) = pick (eqb n 0) padded (number (b + 128 * n) (suc w))
carry b padded = padded
carry b over = over
carry b cut = cut

-- `left` bytes may follow the one at hand; the last that is allowed, the tenth, is 01, or 00, which is padding
unfoldable pub spelled : ℕ → List ℕ → Spelled
spelled left [] = cut
spelled zero (b ∷ l) = pick (leb b 1) (number b 1) over
spelled (suc left) (b ∷ l) = pick (ltb b 128) (number b 1) (carry (b - 128) (spelled left l))

-- the answer at the varint that starts at `at`
abbrev pub answered : ℕ → Spelled → Answer (Read ℕ)
answered at (number n w) = read n (at + w)
answered at padded = refused 24 at
answered at over = refused 3 at
answered at cut = refused 4 at

-- the varint at a place: no byte at all is truncated
unfoldable pub varint_at : List ℕ → ℕ → Answer (Read ℕ)
varint_at s at = pick (ltb at (length s)) (answered at (spelled 9 (drop at s))) (refused 2 at)
