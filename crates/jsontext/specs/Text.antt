-- A string as it is read at its opening quote: the earliest fault decides (rules 7 and 11). Assumes nothing.
use Rattle.std.specs.Prelude.{ℕ, zero, suc, ◌+◌, ◌-◌, List, length, ltb, eqb}
use Rattle.scan.specs.Choice.{pick, Answer, refused, Read, read}
use Rattle.scan.specs.Place.{byte_at}
use Rattle.utf8.specs.inner.Width.{width_at}
use Rattle.jsontext.specs.declared.Spelled.{Spelled}
use Rattle.jsontext.specs.inner.Escape.{escape_at}

-- the width of an escape or a sequence: the bytes behind it are read, or the fault with its number and place is told
abbrev pub onward : (width number place : ℕ) (at : ℕ) → (ℕ → Answer (Read Spelled)) → Answer (Read Spelled)
onward w number place at next = pick (eqb w 0) (refused number place) (next (at + w))

-- the string that starts at `start`, from place i on. A byte past the end reads as 0: a string that never closes ends
-- as one with a raw control byte.
unfoldable pub chars_at : ℕ → List ℕ → (start i : ℕ) → Answer (Read Spelled)
chars_at zero s start i = refused 14 start
chars_at (suc fuel) s start i =
    pick (eqb (byte_at s i) 0x22) (read (record { from = start + 1; count = i - (start + 1) }) (i + 1))
    (pick (ltb (byte_at s i) 0x20) (refused 14 start)
    (pick (eqb (byte_at s i) 0x5C) (onward (escape_at s i).width 14 start i (chars_at fuel s start))
    (pick (ltb (byte_at s i) 0x80) (chars_at fuel s start (i + 1)) (onward (width_at s i) 5 (start + 1) i (chars_at fuel s start)))))

-- a string at a place: any other token is 14 at its first byte
unfoldable pub string_at : List ℕ → ℕ → Answer (Read Spelled)
string_at s at = pick (eqb (byte_at s at) 0x22) (chars_at (length s) s at (at + 1)) (refused 14 at)
