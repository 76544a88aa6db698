-- Going over the texts and tags of a packed event again, behind the reader: what a second pass finds from place to
-- place. No entry promises by them.
-- Total: n parts are n parts and n tags are n tags, whatever stands there. Assumes nothing.
use Rattle.std.specs.Prelude.{ℕ, zero, suc, ◌/◌, ◌%◌, false, List, [], ◌∷◌, take, drop, eqb}
use Rattle.scan.specs.Choice.{Answer, Read, and_then}
use Rattle.scan.specs.inner.Otherwise.{or_else}
use Rattle.varint.specs.Varint.{varint_at}
use Rattle.event.specs.Event.{Text, Tag, Event}
use Rattle.notepack.specs.declared.Part.{Part}
use Rattle.notepack.specs.declared.Head.{Head}
use Rattle.notepack.specs.Unpack.{part_of, text_of, payload_at, number_at}

-- an element's part. Its text was tested by the reader and is not tested again.
unfoldable pub element_part_at : List ℕ → ℕ → Answer (Read Part)
element_part_at s at =
    and_then (varint_at s at) λ w.
    payload_at at (eqb (w.value % 2) 1) (w.value / 2) s w.next

-- the part at a place; where none is read it is empty and the place stays
unfoldable pub part_again : List ℕ → ℕ → Read Part
part_again s at = or_else (record { value = part_of at 0 false; next = at }) (element_part_at s at) λ p. p

-- a tag's number of texts, which the reader tested; 0, and the place stays, where none is read
unfoldable pub count_again : List ℕ → ℕ → Read ℕ
count_again s at = or_else (record { value = 0; next = at }) (number_at 255 8 s at) λ n. n

-- n texts, and where they end
unfoldable pub texts_again : ℕ → List ℕ → ℕ → List Text
texts_again zero s at = []
texts_again (suc n) s at = text_of s (part_again s at).value ∷ texts_again n s (part_again s at).next

unfoldable pub texts_end : ℕ → List ℕ → ℕ → ℕ
texts_end zero s at = at
texts_end (suc n) s at = texts_end n s (part_again s at).next

-- n tags
unfoldable pub tags_again : ℕ → List ℕ → ℕ → List Tag
tags_again zero s at = []
tags_again (suc n) s at =
    texts_again (count_again s at).value s (count_again s at).next
    ∷ tags_again n s (texts_end (count_again s at).value s (count_again s at).next)

-- the event, by what stands in front of its tags
unfoldable pub event_again : List ℕ → Head → Event
event_again s h =
    record {
      id = take 32 s;
      pubkey = take 32 (drop 32 s);
      sig = take 64 (drop 64 s);
      created_at = h.created_at;
      kind = h.kind;
      tags = tags_again h.tag_count s h.tags_at;
      content = text_of s h.content;
    }
