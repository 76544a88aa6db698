-- The meaning is not empty: a text with white space, an escaped name and an ignored member, and the event that it is.
-- By running the definition; `sound` then gives the tree.
use Prim.Native.Nat.{ℕ}
use mathlib.Core.Path.{◌≡◌, refl}
use mathlib.Core.List.{List, [], ◌∷◌, ◌++◌}
use lib.ListN.{replicate}
use Rattle.scan.specs.Ascii.{ascii}
use Rattle.scan.specs.Choice.{shown}
use Rattle.scan.specs.Place.{begins, stands_at, within, run, run_at}
use Rattle.utf8.specs.Encode.{encode}
use Rattle.utf8.specs.inner.Width.{width_at}
use Rattle.hexdigits.specs.Hex.{value_of, unhex, all_digits}
use Rattle.scan.specs.Compare.{same_bytes}
use Rattle.event.specs.Event.{Event}
use Rattle.jsontext.specs.inner.Escape.{hex_value, unit_of, unit_at, unescaped_letter, letter_escape, pair_of, unicode_at, escape_at, or_itself, unescaped, unescape}
use Rattle.jsontext.specs.Token.{is_space, space_at, word_at, digits_or, minus_at, sign_at, int_at, frac_at, is_e, exp_at, number_from, unsigned_from, skip_number}
use Rattle.jsontext.specs.Text.{chars_at, string_at}
use Rattle.jsontext.specs.Value as value
use Rattle.jsonevent.specs.Field.{text_at, is_hex_of, hex_at, digits_only, whole_of, whole_at, after_item, items_at, inside_at, array_at, one_or_more, tag_at, tags_standing, index_in, field_of, field_at}
use Rattle.jsonevent.specs.Object as object
use Rattle.jsonevent.specs.inner.Closing as closing
use Rattle.jsonevent.proofs.Whole.{Shows, sound}

abbrev quoted : List ℕ → List ℕ
quoted l = 0x22 ∷ (l ++ (0x22 ∷ []))

abbrev member : List ℕ → List ℕ → List ℕ
member n v = quoted n ++ (0x3A ∷ v)

abbrev comma : List ℕ → List ℕ → List ℕ
comma a b = a ++ (0x2C ∷ b)

-- an ignored name, with an array that holds an empty object
abbrev other : List ℕ
other = member (0x78 ∷ []) (0x5B ∷ 0x7B ∷ 0x7D ∷ 0x5D ∷ [])

-- \u006bind, and 1
abbrev kind : List ℕ
kind = member (0x5C ∷ 0x75 ∷ 0x30 ∷ 0x30 ∷ 0x36 ∷ 0x62 ∷ 0x69 ∷ 0x6E ∷ 0x64 ∷ []) (0x31 ∷ [])

-- [["d",""]]
abbrev tags : List ℕ
tags = member (ascii "tags") (0x5B ∷ 0x5B ∷ (comma (quoted (0x64 ∷ [])) (quoted []) ++ (0x5D ∷ 0x5D ∷ [])))

-- a line feed as an escape
abbrev content : List ℕ
content = member (ascii "content") (quoted (0x61 ∷ 0x5C ∷ 0x6E ∷ []))

abbrev zeros : ℕ → List ℕ
zeros n = quoted (replicate n 0x30)

abbrev text : List ℕ
text =
    let back = comma other (comma kind (comma tags (content ++ (0x20 ∷ 0x7D ∷ 0x0A ∷ [])))) in
    0x7B ∷ 0x20 ∷ comma (member (ascii "sig") (zeros 128)) (comma (member (ascii "id") (zeros 64)) (comma (member (ascii "created_at") (0x37 ∷ [])) (comma (member (ascii "pubkey") (zeros 64)) back)))

abbrev event : Event
event =
    record {
      id = replicate 32 0;
      pubkey = replicate 32 0;
      sig = replicate 64 0;
      created_at = 7;
      kind = 1;
      tags = ((0x64 ∷ []) ∷ [] ∷ []) ∷ [];
      content = 0x61 ∷ 0x0A ∷ [];
    }

pub example_read : object.read_json text ≡ shown event
unfolding object.read_json object.whole_at object.object_at object.inside_at object.members_at object.after_member closing.close_at object.member_at object.colon_at field_at field_of index_in tags_standing tag_at one_or_more array_at inside_at items_at after_item whole_at whole_of digits_only hex_at is_hex_of text_at value.value_at value.skip_walk_by value.skip_value_by value.skip_inside value.skip_items value.skip_after value.skip_item value.skip_member value.skip_colon chars_at string_at is_space space_at word_at digits_or minus_at sign_at int_at frac_at is_e exp_at number_from unsigned_from skip_number hex_value unit_of unit_at unescaped_letter letter_escape pair_of unicode_at escape_at or_itself unescaped unescape same_bytes value_of unhex all_digits width_at within run run_at stands_at begins encode
example_read = refl

pub example_shows : Shows text event
example_shows = sound example_read
