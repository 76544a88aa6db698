-- A value as it is read over at a place, with the depth that is left (rules 7 and 11). Assumes nothing.
use Rattle.std.specs.Prelude.{ℕ, zero, suc, ◌+◌, List, length, eqb}
use Rattle.scan.specs.Ascii.{ascii}
use Rattle.scan.specs.Choice.{pick, refused, and_then}
use Rattle.scan.specs.Place.{byte_at}
use Rattle.jsontext.specs.Token.{Skipped, past, space_at, word_at, skip_number}
use Rattle.jsontext.specs.Text.{string_at}

-- a name, a colon and a value; `value` reads the value
unfoldable pub skip_colon : (value : ℕ → Skipped) → List ℕ → ℕ → Skipped
skip_colon value s p = pick (eqb (byte_at s p) 0x3A) (value (space_at s (p + 1))) (refused 14 p)

unfoldable pub skip_member : (value : ℕ → Skipped) → List ℕ → ℕ → Skipped
skip_member value s at = and_then (string_at s at) (λ n. skip_colon value s (space_at s n.next))

-- what stands in the brackets that `close` closes: members or values
unfoldable pub skip_item : (close : ℕ) (value : ℕ → Skipped) → List ℕ → ℕ → Skipped
skip_item close value s at = pick (eqb close 0x7D) (skip_member value s at) (value at)

-- behind an item, at p: the closing bracket, or a comma and more
unfoldable pub skip_after : (close : ℕ) (more : ℕ → Skipped) → List ℕ → ℕ → Skipped
skip_after close more s p =
    pick (eqb (byte_at s p) close) (past (p + 1)) (pick (eqb (byte_at s p) 0x2C) (more (space_at s (p + 1))) (refused 14 p))

unfoldable pub skip_items : (close : ℕ) (item : ℕ → Skipped) (fuel : ℕ) → List ℕ → ℕ → Skipped
skip_items close item zero s at = refused 14 at
skip_items close item (suc fuel) s at = and_then (item at) (λ r. skip_after close (skip_items close item fuel s) s (space_at s r.next))

-- behind the opening bracket and its white space, at p: the closing bracket, or items
unfoldable pub skip_inside : (close : ℕ) (item : ℕ → Skipped) → List ℕ → ℕ → Skipped
skip_inside close item s p = pick (eqb (byte_at s p) close) (past (p + 1)) (skip_items close item (length s) s p)

-- the value's first byte decides; `walk close` reads over an array or an object that `close` closes
unfoldable pub skip_value_by : (walk : ℕ → ℕ → Skipped) → List ℕ → ℕ → Skipped
skip_value_by walk s at =
    pick (eqb (byte_at s at) 0x22) (and_then (string_at s at) (λ r. past r.next))
    (pick (eqb (byte_at s at) 0x7B) (walk 0x7D at)
    (pick (eqb (byte_at s at) 0x5B) (walk 0x5D at)
    (pick (eqb (byte_at s at) 0x74) (word_at (ascii "true") s at)
    (pick (eqb (byte_at s at) 0x66) (word_at (ascii "false") s at)
    (pick (eqb (byte_at s at) 0x6E) (word_at (ascii "null") s at) (skip_number s at))))))

-- an array or an object whose opening bracket stands at a place, and whose values `value` reads
unfoldable pub skip_walk_by : (close : ℕ) (value : ℕ → Skipped) → List ℕ → ℕ → Skipped
skip_walk_by close value s at = skip_inside close (skip_item close value s) s (space_at s (at + 1))

-- a value at a place, with at most `depth` arrays and objects inside one another: 18 at the opening bracket too many
unfoldable pub value_at : (depth : ℕ) → List ℕ → ℕ → Skipped
value_at zero s = skip_value_by (λ close at. refused 18 at) s
value_at (suc depth) s = skip_value_by (λ close. skip_walk_by close (value_at depth s) s) s
