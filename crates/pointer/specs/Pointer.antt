-- Reading the pointer form at places of the input, v0 and v1 alike (rules 18): header, fields, pointers, tables, texts,
-- with the refusals and places of rule 10. This is the plain walk, field after field and each tag whole before the
-- next. `proofs/` shows that of a v0 it is `LaysPointer`. Assumes nothing.
use Rattle.std.specs.Prelude.{ℕ, ◌+◌, ◌-◌, ◌/◌, ◌%◌, Bool, false, ◌&&◌, ◌||◌, List, map, length, take, drop, ℤ, leb, eqb}
use Rattle.scan.specs.Choice.{pick, Answer, shown, refused, Read, read, and_then, many}
use Rattle.utf8.specs.inner.Width.{is_utf8}
use Rattle.littleendian.specs.LittleEndian.{number_of}
use Rattle.moment.specs.Moment.{Second, whole, split, signed_of, seconds_of}
use Rattle.event.specs.Event.{Text, Tag, Event}
use Rattle.notepack.specs.declared.Part.{Part}
use Rattle.notepack.specs.Unpack.{part_of, bytes_of}

-- the number of the eight bytes at a place, the lowest first
unfoldable pub word_at : List ℕ → ℕ → ℕ
word_at s at = number_of (take 8 (drop at s))

-- the lower and the upper 32 bits of a word
abbrev pub lower : ℕ → ℕ
lower w = w % 4_294_967_296

abbrev pub upper : ℕ → ℕ
upper w = w / 4_294_967_296

-- ---- the header: bits 0 to 31 the length without id and sig, 32 to 47 the version, the others reserved

abbrev pub version_in : ℕ → ℕ
version_in w = upper w % 65_536

abbrev pub reserved_in : ℕ → ℕ
reserved_in w = upper w / 65_536

unfoldable pub is_header : ℕ → List ℕ → Bool
is_header w s = eqb (reserved_in w) 0 && leb (version_in w) 1 && leb 72 (lower w) && eqb (lower w + 96) (length s)

-- the version, 0 or 1; 1 first of all, then 26
unfoldable pub header_at : List ℕ → Answer ℕ
header_at s =
    pick (leb (length s) 65_536)
    (pick (is_header (word_at s 0) s) (shown (version_in (word_at s 0))) (refused 26 0))
    (refused 1 0)

-- what a v0 asks, and a v1 does not
abbrev pub asked : ℕ → Bool → Bool
asked version test = eqb version 1 || test

-- ---- pointers: the upper 32 bits are the offset in the data, the lower the length in bytes

-- the data stands between the first 72 bytes and the last 96
abbrev pub data_size : List ℕ → ℕ
data_size s = length s - 168

-- what the word names, in the bytes given
abbrev pub named : ℕ → Part
named w = part_of (72 + upper w) (lower w) false

-- the piece that the pointer at a place names
unfoldable pub piece_at : List ℕ → ℕ → Answer Part
piece_at s at =
    pick (eqb (upper (word_at s at) % 8) 0 && leb (upper (word_at s at) + lower (word_at s at)) (data_size s))
    (shown (named (word_at s at)))
    (refused 27 at)

-- a table is pointers, of eight bytes each
unfoldable pub table_at : List ℕ → ℕ → Answer Part
table_at s at =
    and_then (piece_at s at) λ p.
    pick (eqb (p.len % 8) 0) (shown p) (refused 27 at)

abbrev pub entries_in : Part → ℕ
entries_in p = p.len / 8

-- a text: in a v0 well-formed
unfoldable pub pointed_text : ℕ → List ℕ → ℕ → Answer Part
pointed_text version s at =
    and_then (piece_at s at) λ p.
    pick (asked version (is_utf8 (bytes_of s p))) (shown p) (refused 5 p.at)

-- the same, and the place behind its pointer
unfoldable pub pointed_text_at : ℕ → List ℕ → ℕ → Answer (Read Part)
pointed_text_at version s at =
    and_then (pointed_text version s at) λ p.
    read p (at + 8)

-- the table of a tag: in a v0 of 1 to 255 texts
unfoldable pub tag_table_at : ℕ → List ℕ → ℕ → Answer Part
tag_table_at version s at =
    and_then (table_at s at) λ p.
    pick (asked version (leb (entries_in p) 255)) (pick (asked version (leb 1 (entries_in p))) (shown p) (refused 9 at)) (refused 8 at)

-- a tag: its table, then its texts in order
unfoldable pub pointed_tag_at : ℕ → List ℕ → ℕ → Answer (Read (List Part))
pointed_tag_at version s at =
    and_then (tag_table_at version s at) λ p.
    and_then (many (pointed_text_at version s) (entries_in p) p.at) λ ts.
    read ts.value (at + 8)

-- ---- the fields, in order: kind, time, content, tags

unfoldable pub kind_at : ℕ → List ℕ → Answer ℕ
kind_at version s = pick (asked version (leb (word_at s 40) 65_535)) (shown (word_at s 40)) (refused 6 40)

-- the milliseconds that stand there, in two's complement
abbrev pub millis_at : List ℕ → ℤ
millis_at s = signed_of (word_at s 48)

-- the second that a v0 says; 28 for a negative or a split one
abbrev pub second_told : Second → Answer ℕ
second_told (whole n) = shown n
second_told split = refused 28 48

unfoldable pub second_at : List ℕ → Answer ℕ
second_at s = second_told (seconds_of (millis_at s))

-- the time: in a v0 a whole second, not before 1970
unfoldable pub time_at : ℕ → List ℕ → Answer ℤ
time_at version s = pick (eqb version 1) (shown (millis_at s)) (and_then (second_at s) λ t. shown (millis_at s))

-- the table of the tags: in a v0 at most 1,000
unfoldable pub tags_table_at : ℕ → List ℕ → Answer Part
tags_table_at version s =
    and_then (table_at s 64) λ p.
    pick (asked version (leb (entries_in p) 1_000)) (shown p) (refused 8 64)

unfoldable pub pointed_tags_at : ℕ → List ℕ → Answer (List (List Part))
pointed_tags_at version s =
    and_then (tags_table_at version s) λ p.
    and_then (many (pointed_tag_at version s) (entries_in p) p.at) λ ts.
    shown ts.value

-- what a form has: the time is in milliseconds, a part stands in the bytes given
pub record Form : Type 0 where
  pub version : ℕ
  pub kind : ℕ
  pub time : ℤ
  pub content : Part
  pub tags : List (List Part)

unfoldable pub form_at : List ℕ → Answer Form
form_at s =
    and_then (header_at s) λ v.
    and_then (kind_at v s) λ k.
    and_then (time_at v s) λ t.
    and_then (pointed_text_at v s 56) λ c.
    and_then (pointed_tags_at v s) λ ts.
    shown (record { version = v; kind = k; time = t; content = c.value; tags = ts })

-- an event by the fields that were read: the pubkey stands behind the header, id and sig at the end
abbrev pub event_with : List ℕ → ℕ → ℕ → List Tag → Text → Event
event_with s time kind tags content =
    record {
      id = take 32 (drop (length s - 96) s);
      pubkey = take 32 (drop 8 s);
      sig = drop (length s - 64) s;
      created_at = time;
      kind = kind;
      tags = tags;
      content = content;
    }

-- the event of a v0 whose fields were read and whose second is t
unfoldable pub pointed_event : List ℕ → ℕ → Form → Event
pointed_event s t f = event_with s t f.kind (map (map (bytes_of s)) f.tags) (bytes_of s f.content)

-- the event that a v0 shows; a v1 is 26 before any field
unfoldable pub pointer_event : List ℕ → Answer Event
pointer_event s =
    and_then (header_at s) λ v.
    pick (eqb v 0)
    (and_then (form_at s) λ f.
    and_then (second_at s) λ t.
    shown (pointed_event s t f))
    (refused 26 0)
