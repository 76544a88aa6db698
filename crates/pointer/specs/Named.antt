-- What the pointers of a table name (rules 18), place by place. Assumes nothing.
use Rattle.std.specs.Prelude.{ℕ, zero, suc, ◌+◌, List, [], ◌∷◌}
use Rattle.notepack.specs.declared.Part.{Part}
use Rattle.pointer.specs.Pointer.{word_at, named, entries_in}

-- one for each of n places, eight bytes apart
unfoldable pub each_from : {A : Type 0} → (ℕ → A) → ℕ → ℕ → List A
each_from f zero at = []
each_from f (suc n) at = f at ∷ each_from f n (at + 8)

-- the part that the pointer at a place names, and the parts that n name
abbrev pub part_named : List ℕ → ℕ → Part
part_named s at = named (word_at s at)

abbrev pub parts_from : ℕ → List ℕ → ℕ → List Part
parts_from n s at = each_from (part_named s) n at

-- the parts of the tag whose table the pointer at a place names
abbrev pub tag_named : List ℕ → ℕ → List Part
tag_named s at = parts_from (entries_in (part_named s at)) s (part_named s at).at
