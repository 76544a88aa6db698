-- What the second pass writes from the places that the first pass found. Total: a refusal ends it. Assumes nothing.
use Rattle.std.specs.Prelude.{ℕ, zero, suc, ◌+◌, List, [], ◌++◌, length, take, drop, ltb, eqb}
use Rattle.scan.specs.Choice.{pick}
use Rattle.scan.specs.inner.Otherwise.{or_else}
use Rattle.scan.specs.Place.{byte_at}
use Rattle.varint.specs.Uleb.{uleb}
use Rattle.hexdigits.specs.Hex.{unhex}
use Rattle.notepack.specs.Strict.{pack_element}
use Rattle.jsontext.specs.Token.{space_at}
use Rattle.jsontext.specs.Text.{string_at}
use Rattle.jsonstring.specs.declared.Text.{Text}
use Rattle.jsonstring.specs.declared.Text.TheVariants as text
use Rattle.jsonevent.specs.Field.{text_of}
use Rattle.jsonfields.specs.declared.Spot.{Spot}
use Rattle.jsonfields.specs.inner.Spots.{spelled_of}
use Rattle.jsonobject.specs.declared.Fields.{Fields}

-- the text of a string that was read: a plain one is its own
abbrev pub said : List ℕ → Text → List ℕ
said s (text.Plain p) = take p.count (drop p.from s)
said s (text.Other p) = text_of s p

-- behind the byte at a place and white space; the end stays
unfoldable pub behind_at : List ℕ → ℕ → ℕ
behind_at s at = pick (ltb at (length s)) (space_at s (at + 1)) at

-- behind a string that ends at a place: white space, a comma or a bracket, and white space
unfoldable pub next_at : List ℕ → ℕ → ℕ
next_at s at = behind_at s (space_at s at)

-- behind the text at a place; 0 where none is read
unfoldable pub text_end : List ℕ → ℕ → ℕ
text_end s at = or_else 0 (string_at s at) λ r. r.next

-- how many texts stand from a place on, up to a limit: each but the last has a comma behind it
unfoldable pub count_texts : ℕ → List ℕ → ℕ → ℕ
count_texts zero s at = 0
count_texts (suc left) s at =
    or_else 0 (string_at s at) λ r.
    suc (pick (eqb (byte_at s (space_at s r.next)) 0x2C) (count_texts left s (next_at s r.next)) 0)

-- n texts as strict elements, and the place behind what closes them
unfoldable pub texts_text : ℕ → List ℕ → ℕ → List ℕ
texts_text zero s at = []
texts_text (suc n) s at = or_else [] (string_at s at) λ r. pack_element (text_of s r.value) ++ texts_text n s (next_at s r.next)

unfoldable pub json_texts_end : ℕ → List ℕ → ℕ → ℕ
json_texts_end zero s at = at
json_texts_end (suc n) s at = or_else at (string_at s at) λ r. json_texts_end n s (next_at s r.next)

-- n tags: the first text of each stands behind its bracket
unfoldable pub json_tag_text : List ℕ → ℕ → List ℕ
json_tag_text s first = uleb (count_texts 255 s first) ++ texts_text (count_texts 255 s first) s first

unfoldable pub json_tags_text : ℕ → List ℕ → ℕ → List ℕ
json_tags_text zero s at = []
json_tags_text (suc n) s at =
    json_tag_text s (behind_at s at) ++ json_tags_text n s (behind_at s (json_texts_end (count_texts 255 s (behind_at s at)) s (behind_at s at)))

-- the content: where it is as long as it is spelled, its bytes as they are
unfoldable pub spot_content : List ℕ → Spot → List ℕ
spot_content s p = pick (eqb p.number p.count) (take p.count (drop p.from s)) (text_of s (spelled_of p))

-- the seven fields, in the order of the strict form
unfoldable pub fields_text : List ℕ → Fields → List ℕ
fields_text s f =
    unhex (text_of s (spelled_of f.id))
    ++ unhex (text_of s (spelled_of f.pubkey))
    ++ unhex (text_of s (spelled_of f.sig))
    ++ uleb f.created_at.number
    ++ uleb f.kind.number
    ++ (uleb f.content.number ++ spot_content s f.content)
    ++ (uleb f.tags.number ++ json_tags_text f.tags.number s f.tags.from)
