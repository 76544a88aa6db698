-- The elements as a second pass finds them from place to place, behind the reader; `proofs/Again` shows that on an
-- accepted input they are those of `in_tags`. Assumes nothing.
use Rattle.std.specs.Prelude.{ℕ, zero, suc, List, [], ◌∷◌, ◌++◌}
use Rattle.notepack.specs.inner.Again.{part_again, count_again, texts_end}
use Rattle.elements.specs.Elements.{TagElement}

-- n elements of tag number i
unfoldable pub tag_again : ℕ → ℕ → List ℕ → ℕ → List TagElement
tag_again zero i s at = []
tag_again (suc n) i s at = record { tag = i; part = (part_again s at).value } ∷ tag_again n i s (part_again s at).next

-- the elements of n tags, the first being number i
unfoldable pub all_again : ℕ → ℕ → List ℕ → ℕ → List TagElement
all_again zero i s at = []
all_again (suc n) i s at =
    tag_again (count_again s at).value i s (count_again s at).next
    ++ all_again n (suc i) s (texts_end (count_again s at).value s (count_again s at).next)
