-- The laws are not empty: the example of rule 12.4 has 366 bytes and its counts, and is read; with other counts it is
-- refused as the rule says.
-- By running the definitions.
use Prim.Native.Nat.{ℕ}
use mathlib.Core.Path.{◌≡◌, refl}
use mathlib.Core.List.{List, [], ◌∷◌, ◌++◌}
use lib.ListN.{length, replicate}
use Rattle.scan.specs.Choice.{shown, refused, many}
use Rattle.scan.specs.Place.{begins, stands_at, within}
use Rattle.utf8.specs.Encode.{encode}
use Rattle.utf8.specs.inner.Width.{width_of}
use Rattle.hexdigits.specs.Hex.{hexes, value_of, unhex, all_digits}
use Rattle.decimal.specs.Decimal.{decimal_in, decimal}
use Rattle.escape.specs.Escape.{nson_byte, escaped}
use Rattle.scan.specs.Compare.{same_bytes}
use Rattle.event.specs.Event.{Event}
use Rattle.jsontext.specs.inner.Escape.{unescaped_letter, letter_escape, escape_at, or_itself, unescaped, unescape}
use Rattle.nsonstring.specs.Counted.{is_letter, fault_from, fault_in}
use Rattle.jsontags.specs.TagText.{quoted, tag_text, tags_text}
use Rattle.nson.specs.Nson.{escaped_size, counts, nson_field, head_text, body_text, nson}
use Rattle.nson.specs.Read as reading
use Rattle.nson.proofs.Sound.{Accepted, accepted}

-- the event of the NSON examples of rule 12.4
abbrev event : Event
event =
    record {
      id = replicate 32 0;
      pubkey = replicate 32 0;
      sig = replicate 64 0;
      created_at = 1_000_000_000;
      kind = 1;
      tags = [];
      content = 0x61 ∷ 0x22 ∷ 0x62 ∷ [];
    }

-- the same text with another count of the content's bytes
abbrev with : ℕ → List ℕ
with n = head_text event ++ hexes (0x08 ∷ 0x01 ∷ 0x00 ∷ n ∷ 0x00 ∷ []) ++ body_text event

pub example_field : nson_field (counts event) ≡ hexes (0x08 ∷ 0x01 ∷ 0x00 ∷ 0x04 ∷ 0x00 ∷ [])
unfolding nson_field counts escaped_size escaped nson_byte decimal decimal_in
example_field = refl

pub example_length : length (nson event) ≡ 366
unfolding nson head_text body_text nson_field counts escaped_size escaped nson_byte decimal decimal_in tags_text
example_length = refl

pub example_read : reading.read_nson (nson event) ≡ shown event
unfolding nson head_text body_text nson_field counts escaped_size escaped nson_byte decimal decimal_in tags_text tag_text quoted reading.read_nson reading.event_at reading.event_read reading.head_at reading.keys_at reading.labelled_at reading.time_at reading.piece_at reading.hex_at reading.decimal_at reading.is_decimal reading.counts_at reading.counts_to reading.kind_count_at reading.item_count_at reading.tag_counts_at reading.byte_count_at reading.word_count_at reading.descriptor_at reading.byte_here reading.word_here reading.body_read_at reading.kind_part_at reading.kind_at reading.content_part_at reading.tags_part_at reading.tags_standing reading.tag_at reading.item_at reading.array_at reading.items_at reading.text_at many fault_in fault_from is_letter width_of within stands_at begins value_of unhex all_digits same_bytes unescape unescaped or_itself escape_at letter_escape unescaped_letter encode
example_read = refl

-- the counts 3, 2 and 5 for the content's four bytes: the next piece does not follow, the escape is cut, and a quote is
-- bare
pub example_refused : (reading.read_nson (with 3) ≡ refused 13 353) × (reading.read_nson (with 2) ≡ refused 14 350) × (reading.read_nson (with 5) ≡ refused 13 350)
unfolding head_text body_text escaped nson_byte decimal decimal_in tags_text tag_text quoted reading.read_nson reading.event_at reading.event_read reading.head_at reading.keys_at reading.labelled_at reading.time_at reading.piece_at reading.hex_at reading.decimal_at reading.is_decimal reading.counts_at reading.counts_to reading.kind_count_at reading.item_count_at reading.tag_counts_at reading.byte_count_at reading.word_count_at reading.descriptor_at reading.byte_here reading.word_here reading.body_read_at reading.kind_part_at reading.kind_at reading.content_part_at reading.tags_part_at reading.tags_standing reading.tag_at reading.item_at reading.array_at reading.items_at reading.text_at many fault_in fault_from is_letter width_of within stands_at begins value_of unhex all_digits same_bytes unescape unescaped or_itself escape_at letter_escape unescaped_letter encode
example_refused = (refl, refl, refl)

-- so there is an event that is carried and valid
pub example_accepted : Accepted (nson event) event
example_accepted = accepted example_read
