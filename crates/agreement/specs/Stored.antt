-- Packed bytes by how the elements of the event are stored (rule 12.2.11). Assumes nothing.
use Rattle.std.specs.Prelude.{ℕ, length}
use mathlib.Core.List.{List, [], ◌∷◌, ◌++◌, map, flatten}
use Rattle.varint.specs.Uleb.{uleb}
use Rattle.event.specs.Event.{Tag, Event}
use Rattle.notepack.specs.Layout.{Element}
use Rattle.notepack.specs.Strict.{pack_element}

-- the bytes of each element of a tag
pub data StoredTag : Tag → List (List ℕ) → Type 0 where
  none : StoredTag [] []
  more : {t l : List ℕ} {ts : Tag} {ls : List (List ℕ)} → Element t l → StoredTag ts ls → StoredTag (t ∷ ts) (l ∷ ls)

-- the same for each tag
pub data Stored : List Tag → List (List (List ℕ)) → Type 0 where
  none : Stored [] []
  more : {t : Tag} {l : List (List ℕ)} {ts : List Tag} {ls : List (List (List ℕ))} → StoredTag t l → Stored ts ls → Stored (t ∷ ts) (l ∷ ls)

-- each tag: how many elements it has, and behind that these, one after the other
abbrev pub tags_with : List (List (List ℕ)) → List ℕ
tags_with [] = []
tags_with (l ∷ ls) = (uleb (length l) ++ flatten l) ++ tags_with ls

-- the packed event whose elements are stored so
unfoldable pub packed_with : Event → List (List (List ℕ)) → List ℕ
packed_with e ls =
    e.id
    ++ (e.pubkey
    ++ (e.sig
    ++ (uleb e.created_at ++ (uleb e.kind ++ (uleb (length e.content) ++ (e.content ++ (uleb (length e.tags) ++ tags_with ls)))))))

-- each element as the strict form has it
abbrev pub stored_strict : List Tag → List (List (List ℕ))
stored_strict tags = map (λ (t : Tag). map pack_element t) tags
