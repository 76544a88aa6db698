-- What the first pass keeps of NSON's reading: places, counts and the length of the strict form. Assumes nothing.
use Rattle.std.specs.Prelude.{ℕ, ◌+◌, List, length, leb, eqb}
use Rattle.scan.specs.Choice.{pick, Answer, shown, refused, Read, read, and_then}
use Rattle.varint.specs.Uleb.{uleb}
use Rattle.notepack.specs.Strict.{pack_tags, pack}
use Rattle.nson.specs.Nson.{content_label, Counts}
use Rattle.nson.specs.inner.Places.{around_kind, before_tags}
use Rattle.nson.specs.Read.{Body, piece_at, head_at, counts_at, body_read_at, event_read}
use Rattle.nsoncounts.specs.declared.Sizes.{Sizes}
use Rattle.nsoncounts.specs.inner.Counted.{text_size_at, sizes_of}
use Rattle.nsonwalk.specs.declared.BodySizes.{BodySizes}
use Rattle.nsonwalk.specs.declared.NsonWalked.{NsonWalked}

-- a read whose value is turned into another
abbrev pub turned : {A B : Type 0} → (A → B) → Answer (Read A) → Answer (Read B)
turned f r = and_then r λ x. read (f x.value) x.next

-- a read, with the length of its value's strict form in place of the value
unfoldable pub sized : {A : Type 0} → (A → List ℕ) → Answer (Read A) → Answer (Read ℕ)
sized f r = turned (λ x. length (f x)) r

-- the label and the content, with the length of its text in its place
unfoldable pub content_size_at : ℕ → List ℕ → ℕ → Answer (Read ℕ)
content_size_at n s at = and_then (piece_at 13 content_label s at) λ a. text_size_at n s a

-- ---- bounds (proofs/Laws derives each)

-- a strict element of a counted text; a tag of 255 of them
abbrev pub element_most : ℕ
element_most = 65_545

abbrev pub tag_most : ℕ
tag_most = 16_713_985

-- the place of the first tag
abbrev pub tags_place_most : ℕ
tags_place_most = 66_146

-- ---- what is kept

-- of what stands behind the descriptors: the kind, and the lengths of the content and of the tags' strict form
abbrev pub body_size : Body → BodySizes
body_size b = record { kind = b.kind; content_len = length b.content; tags_len = length (pack_tags b.tags) }

-- what the code keeps of an accepted text: the length by what it measured
abbrev pub kept : ℕ → Sizes → ℕ → BodySizes → NsonWalked
kept time z at b = record {
  created_at = time;
  kind = b.kind;
  sizes = z;
  body_at = at;
  content_len = b.content_len;
  len = 128 + (length (uleb time) + length (uleb b.kind)) + (length (uleb b.content_len) + length (uleb z.tags)) + b.content_len + b.tags_len;
}

-- what is kept of the whole: the length is that of the event's strict form
abbrev pub walked_of : List ℕ → ℕ → Read Counts → Body → NsonWalked
walked_of s time n b = record {
  created_at = time;
  kind = b.kind;
  sizes = sizes_of n.value;
  body_at = n.next;
  content_len = length b.content;
  len = length (pack (event_read s time b));
}

-- where the content stands, and where the first tag
abbrev pub content_place : NsonWalked → ℕ
content_place w = w.body_at + around_kind + w.sizes.kind

abbrev pub tags_place : NsonWalked → ℕ
tags_place w = content_place w + w.sizes.content + before_tags

-- the reading of the whole, with what is kept in place of the event
unfoldable pub nson_walk_at : List ℕ → Answer NsonWalked
nson_walk_at s =
    pick (leb (length s) 65_536)
    (and_then (head_at s) λ h.
    and_then (counts_at s) λ n.
    and_then (body_read_at n.value s n.next) λ b.
    pick (eqb b.next (length s)) (shown (walked_of s h.value n b.value)) (refused 10 b.next))
    (refused 1 0)
