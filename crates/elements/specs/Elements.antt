-- The elements of all tags as a list, and what is told of them in a lent buffer (rules 4.12 to 4.15). Assumes nothing.
use Rattle.std.specs.Prelude.{ℕ, suc, ◌/◌, Bool, List, [], ◌∷◌, ◌++◌, length, take, drop}
use Rattle.scan.specs.Choice.{pick, Answer, shown, and_then}
use Rattle.buffer.specs.Entry.{leaves}
use Rattle.littleendian.specs.LittleEndian.{low_first}
use Rattle.notepack.specs.declared.Part.{Part}
use Rattle.notepack.specs.Unpack.{Packed}
use Rattle.versioned.specs.Views.{packed_given}

-- an element: the number of its tag, and where its payload stands
pub record TagElement : Type 0 where
  pub tag : ℕ
  pub part : Part

-- the elements of tag number i
abbrev pub in_tag : ℕ → List Part → List TagElement
in_tag i [] = []
in_tag i (p ∷ ps) = record { tag = i; part = p } ∷ in_tag i ps

-- the elements of all tags in their order, the first tag being number i
abbrev pub in_tags : ℕ → List (List Part) → List TagElement
in_tags i [] = []
in_tags i (t ∷ ts) = in_tag i t ++ in_tags (suc i) ts

-- what is told of an element in 16 bytes: its tag's number, its payload's place and length, and 1 for raw bytes
unfoldable pub row : TagElement → List ℕ
row e = low_first 4 e.tag ++ low_first 4 e.part.at ++ low_first 4 e.part.len ++ low_first 4 (pick e.part.raw 1 0)

abbrev pub rows : List TagElement → List ℕ
rows [] = []
rows (e ∷ es) = row e ++ rows es

-- those from element number `first` on for which d has room
unfoldable pub listed : ℕ → List ℕ → Packed → List TagElement
listed first d p = take (length d / 16) (drop first (in_tags 0 p.tags))

-- how many are told, or the reader's refusal; and what is left in d. Their places count in the bytes given.
abbrev pub elements_told : Bool → ℕ → List ℕ → List ℕ → Answer ℕ
elements_told bare first s d = and_then (packed_given bare s) λ p. shown (length (listed first d p))

abbrev pub elements_left : Bool → ℕ → List ℕ → List ℕ → List ℕ
elements_left bare first s d = leaves (λ p. rows (listed first d p)) (packed_given bare s) d
