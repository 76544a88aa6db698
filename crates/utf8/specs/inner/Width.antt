-- The decision: how many bytes one sequence takes, and whether a text is made of sequences. `Laws.is_utf8_lem` shows
-- that `is_utf8` is `Utf8`. Of one sequence: `WidthLaws.width_accepts` (a character of `Utf8` has its length as width),
-- `width_consumes` (a width other than 0 is that of a character that stands there), both stated by `scan/inner/Span`,
-- which an auditor of them reads too; and `width_here` (`width_at` is `width_of` of four bytes). Assumes nothing.
use Rattle.std.specs.Prelude.{ℕ, zero, suc, ◌+◌, ◌-◌, Bool, true, false, ◌&&◌, List, [], ◌∷◌, length, ltb, eqb}
use Rattle.scan.specs.Choice.{pick}
use Rattle.scan.specs.Place.{byte_at, within}

-- UTF8-tail = %x80-BF
abbrev pub is_tail : ℕ → Bool
is_tail b = within 0x80 0xBF b

-- the width of the sequence that begins with the bytes a, b, c, d: 1 to 4, or 0 where it is ill-formed. One case for
-- each row of RFC 3629, section 4, in its order: the first byte chooses the row, the others must be as it says. A byte
-- past the end is 0, which no row has behind its first byte.
unfoldable pub width_of : ℕ → ℕ → ℕ → ℕ → ℕ
width_of a b c d =
    -- UTF8-1 = %x00-7F
    pick (within 0x00 0x7F a) 1
    -- UTF8-2 = %xC2-DF UTF8-tail
    (pick (within 0xC2 0xDF a) (pick (is_tail b) 2 0)
    -- UTF8-3 = %xE0 %xA0-BF UTF8-tail /
    (pick (eqb a 0xE0) (pick (within 0xA0 0xBF b && is_tail c) 3 0)
    --          %xE1-EC 2( UTF8-tail ) /
    (pick (within 0xE1 0xEC a) (pick (is_tail b && is_tail c) 3 0)
    --          %xED %x80-9F UTF8-tail /
    (pick (eqb a 0xED) (pick (within 0x80 0x9F b && is_tail c) 3 0)
    --          %xEE-EF 2( UTF8-tail )
    (pick (within 0xEE 0xEF a) (pick (is_tail b && is_tail c) 3 0)
    -- UTF8-4 = %xF0 %x90-BF 2( UTF8-tail ) /
    (pick (eqb a 0xF0) (pick (within 0x90 0xBF b && is_tail c && is_tail d) 4 0)
    --          %xF1-F3 3( UTF8-tail ) /
    (pick (within 0xF1 0xF3 a) (pick (is_tail b && is_tail c && is_tail d) 4 0)
    --          %xF4 %x80-8F 2( UTF8-tail )
    (pick (eqb a 0xF4) (pick (within 0x80 0x8F b && is_tail c && is_tail d) 4 0) 0))))))))

-- the width of the sequence at a place: 0 where it is ill-formed, is cut by the end, or where nothing stands
unfoldable pub width_at : List ℕ → ℕ → ℕ
width_at s at = pick (ltb at (length s)) (width_of (byte_at s at) (byte_at s (at + 1)) (byte_at s (at + 2)) (byte_at s (at + 3))) 0

-- sequence after sequence; `skip` bytes of the one at hand are still to pass
unfoldable pub sequences : ℕ → List ℕ → Bool
sequences zero [] = true
sequences (suc k) [] = true
sequences (suc k) (b ∷ l) = sequences k l
sequences zero (b ∷ l) = let w = width_of b (byte_at l 0) (byte_at l 1) (byte_at l 2) in pick (eqb w 0) false (sequences (w - 1) l)

-- whether a text is well-formed
unfoldable pub is_utf8 : List ℕ → Bool
is_utf8 s = sequences 0 s
