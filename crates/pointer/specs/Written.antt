-- The v0 that the writer writes (rules 18): content, tags table, then for each tag its table and its texts, each piece
-- filled with zeros to a multiple of 8, nothing shared. Assumes nothing.
use Rattle.std.specs.Prelude.{ℕ, ◌+◌, ◌*◌, ◌-◌, ◌%◌, List, [], ◌∷◌, ◌++◌, length, replicate}
use Rattle.moment.specs.Moment.{millis_of}
use Rattle.event.specs.Event.{Text, Tag, Event}
use Rattle.pointer.specs.Layout.{pointer, word}

-- zeros behind n bytes, to a multiple of 8
unfoldable pub filling : ℕ → List ℕ
filling n = replicate ((8 - n % 8) % 8) 0

-- a text with its filling
unfoldable pub padded_text : Text → List ℕ
padded_text t = t ++ filling (length t)

abbrev pub padded_texts : Tag → List ℕ
padded_texts [] = []
padded_texts (t ∷ ts) = padded_text t ++ padded_texts ts

-- the pointers to texts that stand one after the other from an offset on
abbrev pub text_pointers : ℕ → Tag → List ℕ
text_pointers o [] = []
text_pointers o (t ∷ ts) = word (pointer o (length t)) ++ text_pointers (o + length (padded_text t)) ts

-- a tag from an offset on: its table, then its texts
unfoldable pub tag_piece : ℕ → Tag → List ℕ
tag_piece o t = text_pointers (o + 8 * length t) t ++ padded_texts t

-- how many bytes it takes
abbrev pub tag_size : Tag → ℕ
tag_size t = 8 * length t + length (padded_texts t)

-- tags, one after the other from an offset on
abbrev pub tag_pieces : ℕ → List Tag → List ℕ
tag_pieces o [] = []
tag_pieces o (t ∷ ts) = tag_piece o t ++ tag_pieces (o + tag_size t) ts

-- and the pointers to their tables
abbrev pub tag_pointers : ℕ → List Tag → List ℕ
tag_pointers o [] = []
tag_pointers o (t ∷ ts) = word (pointer o (8 * length t)) ++ tag_pointers (o + tag_size t) ts

-- where the tags table stands, and where the tags start behind it
abbrev pub tags_offset : Event → ℕ
tags_offset e = length (padded_text e.content)

abbrev pub pieces_offset : Event → ℕ
pieces_offset e = tags_offset e + 8 * length e.tags

-- the data
unfoldable pub pointer_data : Event → List ℕ
pointer_data e = padded_text e.content ++ (tag_pointers (pieces_offset e) e.tags ++ tag_pieces (pieces_offset e) e.tags)

-- the whole form
unfoldable pub pointer_form : Event → List ℕ
pointer_form e =
    word (72 + length (pointer_data e))
    ++ (e.pubkey
    ++ (word e.kind
    ++ (word (millis_of e.created_at)
    ++ (word (pointer 0 (length e.content))
    ++ (word (pointer (tags_offset e) (8 * length e.tags)) ++ (pointer_data e ++ (e.id ++ e.sig)))))))
