-- What the second pass writes: all in front of the tags, and the tags. Assumes nothing.
use Rattle.std.specs.Prelude.{ℕ, List, ◌++◌, take}
use Rattle.varint.specs.Uleb.{uleb}
use Rattle.notepack.specs.declared.Head.{Head}
use Rattle.notepack.specs.Strict.{pack_tags}
use Rattle.notepack.specs.Unpack.{bytes_of}
use Rattle.notepack.specs.inner.Again.{tags_again}

-- all in front of the tags
unfoldable pub packed_head : List ℕ → Head → List ℕ
packed_head s h =
    take 128 s ++ uleb h.created_at ++ uleb h.kind ++ uleb h.content.len ++ bytes_of s h.content ++ uleb h.tag_count

-- and the tags behind it
unfoldable pub packed_pieces : List ℕ → Head → List ℕ
packed_pieces s h = packed_head s h ++ pack_tags (tags_again h.tag_count s h.tags_at)
