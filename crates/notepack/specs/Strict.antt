-- The strict form (rules 3): every varint as short as it can be, and each element raw or as text by `goes_as_bytes`
-- (rule 3.3). Assumes nothing.
use Rattle.std.specs.Prelude.{ℕ, ◌+◌, ◌*◌, List, [], ◌∷◌, ◌++◌, length}
use Rattle.scan.specs.Choice.{pick}
use Rattle.varint.specs.Uleb.{uleb}
use Rattle.hexdigits.specs.Hex.{unhex, goes_as_bytes}
use Rattle.event.specs.Event.{Text, Tag, Event}

unfoldable pub pack_element : Text → List ℕ
pack_element t = pick (goes_as_bytes t) (uleb (2 * length (unhex t) + 1) ++ unhex t) (uleb (2 * length t) ++ t)

abbrev pub pack_elements : Tag → List ℕ
pack_elements [] = []
pack_elements (t ∷ ts) = pack_element t ++ pack_elements ts

unfoldable pub pack_tag : Tag → List ℕ
pack_tag ts = uleb (length ts) ++ pack_elements ts

abbrev pub pack_tags : List Tag → List ℕ
pack_tags [] = []
pack_tags (t ∷ ts) = pack_tag t ++ pack_tags ts

-- the one strict form of an event
unfoldable pub pack : Event → List ℕ
pack e =
    e.id
    ++ (e.pubkey
    ++ (e.sig
    ++ (uleb e.created_at ++ (uleb e.kind ++ (uleb (length e.content) ++ (e.content ++ (uleb (length e.tags) ++ pack_tags e.tags)))))))
