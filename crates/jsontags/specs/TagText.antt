-- Strings and arrays of JSON without white space, as the canonical text and NSON have the tags; f is the escaping.
-- Assumes nothing.
use Rattle.std.specs.Prelude.{ℕ, List, [], ◌∷◌, ◌++◌, map}
use Rattle.escape.specs.Escape.{escaped}
use Rattle.event.specs.Event.{Text, Tag}

-- a string: the escaped text between quotes
unfoldable pub quoted : (ℕ → List ℕ) → Text → List ℕ
quoted f t = 0x22 ∷ (escaped f t ++ (0x22 ∷ []))

-- items with a comma between each two
abbrev pub commaed : List (List ℕ) → List ℕ
commaed [] = []
commaed (x ∷ []) = x
commaed (x ∷ y ∷ l) = x ++ (0x2C ∷ commaed (y ∷ l))

-- an array: the items between brackets
abbrev pub array : List (List ℕ) → List ℕ
array l = 0x5B ∷ (commaed l ++ (0x5D ∷ []))

unfoldable pub tag_text : (ℕ → List ℕ) → Tag → List ℕ
tag_text f t = array (map (quoted f) t)

unfoldable pub tags_text : (ℕ → List ℕ) → List Tag → List ℕ
tags_text f l = array (map (tag_text f) l)
