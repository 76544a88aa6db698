-- Reading notepack at places of the input, with the refusals and places of rules 2, 10 and 11. `proofs/` shows that it
-- is
-- `Lays`. Assumes nothing.
use Rattle.std.specs.Prelude.{ℕ, ◌+◌, ◌-◌, ◌/◌, ◌%◌, Bool, true, false, List, map, length, take, drop, leb, eqb}
use Rattle.scan.specs.Choice.{pick, Answer, shown, refused, Read, read, and_then, many}
use Rattle.varint.specs.Varint.{varint_at}
use Rattle.utf8.specs.inner.Width.{is_utf8}
use Rattle.hexdigits.specs.Hex.{hexes}
use Rattle.event.specs.Event.{Text, Event}
use Rattle.notepack.specs.declared.Part.{Part}
use Rattle.notepack.specs.declared.Head.{Head}

-- a part of the input: raw bytes whose text is their hex, or the text itself
abbrev pub part_of : ℕ → ℕ → Bool → Part
part_of at len raw = record { at = at; len = len; raw = raw }

abbrev pub bytes_of : List ℕ → Part → List ℕ
bytes_of s p = take p.len (drop p.at s)

unfoldable pub text_of : List ℕ → Part → Text
text_of s p = pick p.raw (hexes (bytes_of s p)) (bytes_of s p)

-- n bytes at a place. A length beyond the rest is refused at the length's own place.
unfoldable pub payload_at : ℕ → Bool → ℕ → List ℕ → ℕ → Answer (Read Part)
payload_at place raw n s at = pick (leb n (length s - at)) (read (part_of at n raw) (at + n)) (refused 2 place)

-- a payload that is text is well-formed
unfoldable pub text_at : ℕ → ℕ → List ℕ → ℕ → Answer (Read Part)
text_at place n s at =
    and_then (payload_at place false n s at) λ p.
    pick (is_utf8 (bytes_of s p.value)) (shown p) (refused 5 at)

-- a number up to a maximum, checked when it has been read
unfoldable pub number_at : ℕ → ℕ → List ℕ → ℕ → Answer (Read ℕ)
number_at max number s at =
    and_then (varint_at s at) λ n.
    pick (leb n.value max) (shown n) (refused number at)

-- the content: its length, then its text
unfoldable pub content_at : List ℕ → ℕ → Answer (Read Part)
content_at s at =
    and_then (varint_at s at) λ n.
    text_at at n.value s n.next

-- an element: the varint 2 × length + b, then its payload
unfoldable pub element_at : List ℕ → ℕ → Answer (Read Part)
element_at s at =
    and_then (varint_at s at) λ w.
    pick (eqb (w.value % 2) 1) (payload_at at true (w.value / 2) s w.next) (text_at at (w.value / 2) s w.next)

-- n elements, one after the other
abbrev pub elements_at : ℕ → List ℕ → ℕ → Answer (Read (List Part))
elements_at n s at = many (element_at s) n at

-- a tag's number of elements: none is 9, more than 255 is 8
unfoldable pub tag_count_at : List ℕ → ℕ → Answer (Read ℕ)
tag_count_at s at =
    and_then (number_at 255 8 s at) λ n.
    pick (eqb n.value 0) (refused 9 at) (shown n)

-- a tag
unfoldable pub tag_at : List ℕ → ℕ → Answer (Read (List Part))
tag_at s at =
    and_then (tag_count_at s at) λ n.
    elements_at n.value s n.next

-- n tags, one after the other
abbrev pub tags_standing : ℕ → List ℕ → ℕ → Answer (Read (List (List Part)))
tags_standing n s at = many (tag_at s) n at

-- created_at, kind, the content and the number of tags
unfoldable pub numbers_at : List ℕ → Answer Head
numbers_at s =
    and_then (number_at 9_223_372_036_854_775 7 s 128) λ t.
    and_then (number_at 65_535 6 s t.next) λ k.
    and_then (content_at s k.next) λ c.
    and_then (number_at 1_000 8 s c.next) λ n.
    shown (record { created_at = t.value; kind = k.value; content = c.value; tag_count = n.value; tags_at = n.next })

-- all in front of the tags: id, pubkey and sig first
unfoldable pub head_at : List ℕ → Answer Head
head_at s =
    and_then (payload_at 0 true 32 s 0) λ i.
    and_then (payload_at 32 true 32 s 32) λ p.
    and_then (payload_at 64 true 64 s 64) λ g.
    numbers_at s

-- where everything of a packed event stands
pub record Packed : Type 0 where
  pub head : Head
  pub tags : List (List Part)

-- the whole input: 1 first of all, and 10 for a byte after the end
unfoldable pub packed_at : List ℕ → Answer Packed
packed_at s =
    pick (leb (length s) 65_536)
    (and_then (head_at s) λ h.
    and_then (tags_standing h.tag_count s h.tags_at) λ t.
    pick (eqb t.next (length s)) (shown (record { head = h; tags = t.value })) (refused 10 t.next))
    (refused 1 0)

-- the event whose parts stand there
unfoldable pub event_of : List ℕ → Packed → Event
event_of s p =
    record {
      id = take 32 s;
      pubkey = take 32 (drop 32 s);
      sig = take 64 (drop 64 s);
      created_at = p.head.created_at;
      kind = p.head.kind;
      tags = map (map (text_of s)) p.tags;
      content = text_of s p.head.content;
    }

-- the event that packed bytes show, or the refusal
unfoldable pub unpack : List ℕ → Answer Event
unpack s = and_then (packed_at s) λ p. shown (event_of s p)
