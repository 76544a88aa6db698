-- The walk of the reader, in the parts that its private functions have. Assumes nothing.
use Prim.{Unit, tt}
use Rattle.std.specs.Prelude.{ℕ, ◌+◌, ◌*◌, List}
use Rattle.scan.specs.Choice.{Answer, shown, and_then, many}
use Rattle.notepack.specs.declared.Part.{Part}
use Rattle.notepack.specs.Views.{nth}
use Rattle.pointer.specs.Pointer.{entries_in, pointed_text, pointed_text_at, tag_table_at, pointed_tag_at, kind_at, time_at, tags_table_at, form_at}
use Rattle.pointer.specs.Named.{part_named}
use Rattle.pointread.specs.inner.Answers.{Fields}

-- the table of a tag all of whose texts are good
unfoldable pub pointed_tag : ℕ → List ℕ → ℕ → Answer Part
pointed_tag version s at =
    and_then (tag_table_at version s at) λ p.
    and_then (many (pointed_text_at version s) (entries_in p) p.at) λ _.
    shown p

-- the fault of what is read, if it has one
abbrev pub fault : {A : Type 0} → Answer A → Answer (Unit {0})
fault a = and_then a λ _. shown tt

-- the first fault of n texts, of a tag, of n tags
unfoldable pub texts_fault : ℕ → List ℕ → ℕ → ℕ → Answer (Unit {0})
texts_fault version s n at = fault (many (pointed_text_at version s) n at)

unfoldable pub tag_fault : ℕ → List ℕ → ℕ → Answer (Unit {0})
tag_fault version s at = fault (pointed_tag version s at)

unfoldable pub tags_fault : ℕ → List ℕ → ℕ → ℕ → Answer (Unit {0})
tags_fault version s n at = fault (many (pointed_tag_at version s) n at)

-- all fields behind the header, and of the tags how many they are
unfoldable pub front_at : ℕ → List ℕ → Answer Fields
front_at version s =
    and_then (kind_at version s) λ k.
    and_then (time_at version s) λ t.
    and_then (pointed_text version s 56) λ c.
    and_then (tags_table_at version s) λ p.
    shown (record { version = version; kind = k; time = t; content = c; tag_count = entries_in p })

-- the table of tag i
unfoldable pub tag_table : ℕ → List ℕ → Answer Part
tag_table i s =
    and_then (form_at s) λ f.
    and_then (nth i f.tags) λ _.
    shown (part_named s ((part_named s 64).at + 8 * i))
