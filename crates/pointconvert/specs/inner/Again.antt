-- What the second pass writes of a form that was read: all in front of the tags, and the tags from their table on.
-- `proofs/Event` shows that it is the strict form of the event that the form shows. Assumes nothing.
use Rattle.std.specs.Prelude.{ℕ, ◌+◌, ◌-◌, ◌≤◌, ◌≡◌, List, ◌++◌, length, take, drop}
use Rattle.varint.specs.Uleb.{uleb}
use Rattle.event.specs.Event.{Event}
use Rattle.notepack.specs.Unpack.{bytes_of}
use Rattle.pointer.specs.Pointer.{entries_in, event_with}
use Rattle.pointer.specs.Named.{part_named}
use Rattle.pointer.specs.inner.Again.{tags_from}
use Rattle.pointread.specs.inner.Answers.{Fields}

-- the event of a v0 by its fields and its second
unfoldable pub form_event : List ℕ → Fields → ℕ → Event
form_event s o t = event_with s t o.kind (tags_from o.tag_count s (part_named s 64).at) (bytes_of s o.content)

-- all in front of the tags
unfoldable pub packed_front : List ℕ → Fields → ℕ → List ℕ
packed_front s o t =
    take 32 (drop (length s - 96) s)
    ++ take 32 (drop 8 s)
    ++ take 64 (drop (length s - 64) s)
    ++ uleb t
    ++ uleb o.kind
    ++ uleb o.content.len
    ++ bytes_of s o.content
    ++ uleb o.tag_count

-- the input has a form's fixed parts, the content stands in it, and the tags are as many as their table has pointers
pub record Holds (s : List ℕ) (o : Fields) : Type 0 where
  pub least : 168 ≤ length s
  pub content : o.content.at + o.content.len ≤ length s
  pub tags : o.tag_count ≡ entries_in (part_named s 64)
