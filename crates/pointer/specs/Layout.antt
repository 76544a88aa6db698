-- The layout of a v0 of the pointer form (rules 18): which bytes lay out which event. Pieces may be shared, overlap and
-- leave gaps; what stands in a gap is free. A word has room for an offset and a length below 2^32 each, which the limit
-- of 65,536 bytes for the whole form keeps. Says nothing of refusals. Assumes nothing.
use Rattle.std.specs.Prelude.{ℕ, ◌+◌, ◌*◌, ◌%◌, ◌≡◌, List, [], ◌∷◌, ◌++◌, length}
use Rattle.littleendian.specs.LittleEndian.{low_first}
use Rattle.moment.specs.Moment.{millis_of}
use Rattle.event.specs.Event.{Text, Tag, Event}

-- the word of a pointer
abbrev pub pointer : ℕ → ℕ → ℕ
pointer offset len = 4_294_967_296 * offset + len

-- a word in eight bytes, the lowest first
abbrev pub word : ℕ → List ℕ
word w = low_first 8 w

-- a pointer into the data names a piece of it, whose offset is a multiple of 8
pub data Names (dat : List ℕ) : List ℕ → List ℕ → Type 0 where
  names : (before : List ℕ) {piece : List ℕ} (behind : List ℕ) → dat ≡ before ++ (piece ++ behind) → length before % 8 ≡ 0
      → Names dat (word (pointer (length before) (length piece))) piece

-- a table of texts: a pointer for each
pub data TextTable (dat : List ℕ) : Tag → List ℕ → Type 0 where
  none : TextTable dat [] []
  more : {t : Text} {ts : Tag} {p l : List ℕ} → Names dat p t → TextTable dat ts l → TextTable dat (t ∷ ts) (p ++ l)

-- a table of tags: a pointer to each one's table of texts
pub data TagTable (dat : List ℕ) : List Tag → List ℕ → Type 0 where
  none : TagTable dat [] []
  more : {t : Tag} {ts : List Tag} {p l m : List ℕ} → Names dat p l → TextTable dat t l → TagTable dat ts m → TagTable dat (t ∷ ts) (p ++ m)

-- the whole form: the header is version 0 and the length up to the id
pub data LaysPointer (e : Event) : List ℕ → Type 0 where
  lays : {dat content tags table : List ℕ} → Names dat content e.content → Names dat tags table → TagTable dat e.tags table
      → LaysPointer e
      (word (72 + length dat)
      ++ (e.pubkey ++ (word e.kind ++ (word (millis_of e.created_at) ++ (content ++ (tags ++ (dat ++ (e.id ++ e.sig))))))))
