-- What the second pass goes by: the tag at a place, how many bytes the pieces take, and all in front of the data. Inner
-- definitions: the writer's private functions go by them. Assumes nothing.
use Rattle.std.specs.Prelude.{ℕ, ◌+◌, ◌*◌, List, [], ◌∷◌, ◌++◌, length}
use Rattle.moment.specs.Moment.{millis_of}
use Rattle.event.specs.Event.{Tag, Event}
use Rattle.notepack.specs.inner.Again.{count_again, texts_again, texts_end}
use Rattle.pointer.specs.Layout.{pointer, word}
use Rattle.pointer.specs.Written.{padded_text, tag_size, tags_offset}

-- the tag at a place, and where it ends
abbrev pub tag_texts : List ℕ → ℕ → Tag
tag_texts s at = texts_again (count_again s at).value s (count_again s at).next

abbrev pub tag_end : List ℕ → ℕ → ℕ
tag_end s at = texts_end (count_again s at).value s (count_again s at).next

-- how many bytes tags take, without the pointers to their tables
abbrev pub tags_size : List Tag → ℕ
tags_size [] = 0
tags_size (t ∷ ts) = tag_size t + tags_size ts

-- how many bytes the data takes
unfoldable pub data_length : Event → ℕ
data_length e = length (padded_text e.content) + 8 * length e.tags + tags_size e.tags

-- all in front of the data
unfoldable pub form_front : Event → List ℕ
form_front e =
    word (72 + data_length e)
    ++ (e.pubkey
    ++ (word e.kind
    ++ (word (millis_of e.created_at)
    ++ (word (pointer 0 (length e.content)) ++ word (pointer (tags_offset e) (8 * length e.tags))))))
