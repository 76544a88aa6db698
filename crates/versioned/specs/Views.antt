-- What is asked of a packed event of either form besides the event itself: its numbers, a tag's number of texts, an
-- element, the content. Every place counts in the bytes given, so a part is a part of the caller's own bytes.
-- Assumes nothing.
use Rattle.std.specs.Prelude.{ℕ, ◌+◌, Bool, List, map, length, drop}
use Rattle.scan.specs.Choice.{Answer, shown, and_then}
use Rattle.notepack.specs.declared.Part.{Part}
use Rattle.notepack.specs.declared.Head.{Head}
use Rattle.notepack.specs.Unpack.{part_of, Packed, packed_at}
use Rattle.notepack.specs.Views.{nth}
use Rattle.versioned.specs.Versioned.{start_of, behind}

-- a part k bytes further on
abbrev pub move_part : ℕ → Part → Part
move_part k p = part_of (p.at + k) p.len p.raw

-- the numbers of an event k bytes further on
abbrev pub move_head : ℕ → Head → Head
move_head k h =
    record {
      created_at = h.created_at;
      kind = h.kind;
      content = move_part k h.content;
      tag_count = h.tag_count;
      tags_at = h.tags_at + k;
    }

-- and everything of it
abbrev pub move_packed : ℕ → Packed → Packed
move_packed k p = record { head = move_head k p.head; tags = map (map (move_part k)) p.tags }

-- where everything of a packed event stands in the bytes given
unfoldable pub packed_given : Bool → List ℕ → Answer Packed
packed_given bare s =
    and_then (start_of bare s) λ k.
    and_then (behind k (packed_at (drop k s))) λ p.
    shown (move_packed k p)

-- its numbers
unfoldable pub numbers_given : Bool → List ℕ → Answer Head
numbers_given bare s = and_then (packed_given bare s) λ p. shown p.head

-- the number of texts in tag i
unfoldable pub texts_given : Bool → ℕ → List ℕ → Answer ℕ
texts_given bare i s =
    and_then (packed_given bare s) λ p.
    and_then (nth i p.tags) λ t.
    shown (length t)

-- element j of tag i
unfoldable pub element_given : Bool → ℕ → ℕ → List ℕ → Answer Part
element_given bare i j s =
    and_then (packed_given bare s) λ p.
    and_then (nth i p.tags) λ t.
    nth j t

-- the content
unfoldable pub content_given : Bool → List ℕ → Answer Part
content_given bare s = and_then (packed_given bare s) λ p. shown p.head.content
