-- What is asked of a packed event besides its numbers: the content, a tag's number of texts, an element (rules 4).
-- Assumes nothing.
use Rattle.std.specs.Prelude.{ℕ, zero, suc, List, [], ◌∷◌, length}
use Rattle.scan.specs.Choice.{Answer, shown, refused, and_then}
use Rattle.notepack.specs.declared.Part.{Part}
use Rattle.notepack.specs.declared.Head.{Head}
use Rattle.notepack.specs.Unpack.{bytes_of, packed_at}

-- the numbers of the event
unfoldable pub numbers_of : List ℕ → Answer Head
numbers_of s = and_then (packed_at s) λ p. shown p.head

-- number i of a list, counting from 0; 19 where there is none
abbrev pub nth : {A : Type 0} → ℕ → List A → Answer A
nth i [] = refused 19 0
nth zero (x ∷ l) = shown x
nth (suc i) (x ∷ l) = nth i l

-- tag i
unfoldable pub tag_of : ℕ → List ℕ → Answer (List Part)
tag_of i s = and_then (packed_at s) λ p. nth i p.tags

-- the number of texts in tag i
unfoldable pub texts_in : ℕ → List ℕ → Answer ℕ
texts_in i s = and_then (tag_of i s) λ t. shown (length t)

-- element j of tag i
unfoldable pub element_of : ℕ → ℕ → List ℕ → Answer Part
element_of i j s = and_then (tag_of i s) λ t. nth j t

-- the bytes of a part that was found, and none where it was refused
abbrev pub view : List ℕ → Answer Part → List ℕ
view s (shown p) = bytes_of s p
view s (refused n p) = []

-- the content
unfoldable pub content_of : List ℕ → Answer Part
content_of s = and_then (packed_at s) λ p. shown p.head.content
