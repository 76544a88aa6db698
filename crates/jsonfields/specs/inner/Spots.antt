-- The value of each field by its spot: where it stands, and how it goes into the strict form. It is read as
-- jsonevent/specs/Field reads it, with the same refusals, and every number of the spot is fixed. Assumes nothing.
use Rattle.std.specs.Prelude.{ℕ, ◌+◌, List, length, eqb}
use Rattle.scan.specs.Choice.{pick, Answer, refused, Read, read, and_then}
use Rattle.scan.specs.Place.{byte_at}
use Rattle.varint.specs.Uleb.{uleb}
use Rattle.jsontext.specs.declared.Spelled.{Spelled}
use Rattle.jsontext.specs.Token.{space_at}
use Rattle.jsontext.specs.Text.{string_at}
use Rattle.jsontext.specs.Value.{value_at}
use Rattle.jsonevent.specs.Field.{under, text_of, is_hex_of, whole_at, inside_at, tag_at}
use Rattle.jsonfields.specs.inner.Size.{tag_size, sized}
use Rattle.jsonfields.specs.declared.Sized.{Sized}
use Rattle.jsonfields.specs.declared.Spot.{Spot}
use Rattle.jsonfields.specs.declared.Field.{Field}
use Rattle.jsonfields.specs.declared.Field.TheVariants as field-by

-- a field's number, as jsonevent/specs/Meaning lists the names; 7 for any other
abbrev pub field_number : Field → ℕ
field_number field-by.Id = 0
field_number field-by.Pubkey = 1
field_number field-by.Sig = 2
field_number field-by.CreatedAt = 3
field_number field-by.Kind = 4
field_number field-by.Tags = 5
field_number field-by.Content = 6
field_number field-by.Other = 7

-- ---- what is kept of each kind of value

-- n bytes in hex
abbrev pub hex_spot : ℕ → Spelled → Spot
hex_spot n p = record { from = p.from; count = p.count; number = n; len = n }

-- a text: its length, then itself
abbrev pub text_spot : List ℕ → Spelled → Spot
text_spot s p = record { from = p.from; count = p.count; number = length (text_of s p); len = length (uleb (length (text_of s p))) + length (text_of s p) }

-- a number, whose place is not kept
abbrev pub number_spot : ℕ → Spot
number_spot n = record { from = 1; count = 0; number = n; len = length (uleb n) }

-- tags from the first one on: their number, then themselves
abbrev pub tags_spot : ℕ → Sized → Spot
tags_spot first t = record { from = first; count = 0; number = t.count; len = length (uleb t.count) + t.len }

abbrev pub ignored_spot : Spot
ignored_spot = record { from = 1; count = 0; number = 0; len = 0 }

-- the bytes of a string between its quotes, from its spot
abbrev pub spelled_of : Spot → Spelled
spelled_of p = record { from = p.from; count = p.count }

-- ---- the value at its first byte

unfoldable pub hex_spot_at : ℕ → List ℕ → ℕ → Answer (Read Spot)
hex_spot_at n s at =
    and_then (string_at s at) λ r. pick (is_hex_of n (text_of s r.value)) (read (hex_spot n r.value) r.next) (refused 12 at)

unfoldable pub tags_spot_at : List ℕ → ℕ → Answer (Read Spot)
tags_spot_at s at =
    pick (eqb (byte_at s at) 0x5B) (under (tags_spot (space_at s (at + 1))) (under (sized tag_size) (inside_at (tag_at s) 999 s (space_at s (at + 1)))))
    (refused 14 at)

-- the value of field number k
unfoldable pub spot_at : ℕ → List ℕ → ℕ → Answer (Read Spot)
spot_at k s at =
    pick (eqb k 0) (hex_spot_at 32 s at)
    (pick (eqb k 1) (hex_spot_at 32 s at)
    (pick (eqb k 2) (hex_spot_at 64 s at)
    (pick (eqb k 3) (under number_spot (whole_at 9_223_372_036_854_775 7 s at))
    (pick (eqb k 4) (under number_spot (whole_at 65_535 6 s at))
    (pick (eqb k 5) (tags_spot_at s at)
    (pick (eqb k 6) (under (text_spot s) (string_at s at)) (under (λ x. ignored_spot) (value_at 16 s at))))))))
