-- The text of NSON (rules 6). An event has one spelling and no other. Assumes nothing.
use Rattle.std.specs.Prelude.{ℕ, ◌*◌, ◌/◌, ◌%◌, List, [], ◌∷◌, ◌++◌, map, length}
use Rattle.scan.specs.Ascii.{ascii}
use Rattle.hexdigits.specs.Hex.{hexes}
use Rattle.decimal.specs.Decimal.{decimal}
use Rattle.escape.specs.Escape.{nson_byte, escaped}
use Rattle.event.specs.Event.{Text, Event}
use Rattle.jsontags.specs.TagText.{tags_text}

-- ---- the fixed pieces

abbrev pub id_label : List ℕ
id_label = ascii "{\"id\":\""

abbrev pub pubkey_label : List ℕ
pubkey_label = ascii "\",\"pubkey\":\""

abbrev pub sig_label : List ℕ
sig_label = ascii "\",\"sig\":\""

abbrev pub time_label : List ℕ
time_label = ascii "\",\"created_at\":"

abbrev pub nson_label : List ℕ
nson_label = ascii ",\"nson\":\""

abbrev pub kind_label : List ℕ
kind_label = ascii "\",\"kind\":"

abbrev pub content_label : List ℕ
content_label = ascii ",\"content\":\""

abbrev pub tags_label : List ℕ
tags_label = ascii "\",\"tags\":"

-- ---- the counts that the nson field holds

-- the characters of the kind, the bytes of the content, and for each tag the bytes of each item
pub record Counts : Type 0 where
  pub kind : ℕ
  pub content : ℕ
  pub tags : List (List ℕ)

-- the escaped bytes between the quotes
unfoldable pub escaped_size : Text → ℕ
escaped_size t = length (escaped nson_byte t)

-- an event's counts
unfoldable pub counts : Event → Counts
counts e = record { kind = length (decimal e.kind); content = escaped_size e.content; tags = map (map escaped_size) e.tags }

-- a count of two bytes, the upper one first
abbrev pub word : ℕ → List ℕ
word n = n / 256 ∷ n % 256 ∷ []

-- the items' bytes, two for each
abbrev pub words : List ℕ → List ℕ
words [] = []
words (n ∷ l) = word n ++ words l

-- a tag: its number of items, then each item's bytes
abbrev pub tag_counts : List (List ℕ) → List ℕ
tag_counts [] = []
tag_counts (t ∷ l) = length t ∷ (words t ++ tag_counts l)

-- the descriptors, as bytes
abbrev pub descriptors : Counts → List ℕ
descriptors c = c.kind ∷ (word c.content ++ (length c.tags ∷ tag_counts c.tags))

-- the nson field: the size, which counts the hex characters behind it, and the descriptors
unfoldable pub nson_field : Counts → List ℕ
nson_field c = hexes (2 * length (descriptors c) ∷ descriptors c)

-- ---- the whole

-- up to and including "nson":"
unfoldable pub head_text : Event → List ℕ
head_text e =
    id_label
    ++ hexes e.id
    ++ pubkey_label
    ++ hexes e.pubkey
    ++ sig_label
    ++ hexes e.sig
    ++ time_label
    ++ decimal e.created_at
    ++ nson_label

-- behind the nson field
unfoldable pub body_text : Event → List ℕ
body_text e =
    kind_label
    ++ decimal e.kind
    ++ content_label
    ++ escaped nson_byte e.content
    ++ tags_label
    ++ tags_text nson_byte e.tags
    ++ ascii "}"

unfoldable pub nson : Event → List ℕ
nson e = head_text e ++ nson_field (counts e) ++ body_text e
