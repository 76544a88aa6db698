-- The canonical text of NIP-01 (rules 5), over which an event's id is taken: JSON without white
-- space. Assumes nothing.
use Rattle.std.specs.Prelude.{ℕ, List, [], ◌∷◌}
use Rattle.scan.specs.Ascii.{ascii}
use Rattle.hexdigits.specs.Hex.{hexes}
use Rattle.decimal.specs.Decimal.{decimal}
use Rattle.escape.specs.Escape.{canonical_byte}
use Rattle.event.specs.Event.{Event}
use Rattle.jsontags.specs.TagText.{quoted, array, tags_text}

-- [0,"pubkey",created_at,kind,tags,"content"], item by item
abbrev pub items : Event → List (List ℕ)
items e =
    ascii "0"
    ∷ quoted canonical_byte (hexes e.pubkey)
    ∷ decimal e.created_at
    ∷ decimal e.kind
    ∷ tags_text canonical_byte e.tags
    ∷ quoted canonical_byte e.content
    ∷ []

unfoldable pub canonical : Event → List ℕ
canonical e = array (items e)
