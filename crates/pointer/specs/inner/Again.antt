-- Going over the texts and tags of a pointer form again, behind the reader: the bytes that n pointers name.
-- Total: n texts are n texts and n tags are n tags, whatever stands there. Assumes nothing.
use Rattle.std.specs.Prelude.{ℕ, List}
use Rattle.notepack.specs.Unpack.{bytes_of}
use Rattle.pointer.specs.Pointer.{entries_in}
use Rattle.pointer.specs.Named.{each_from, part_named}

-- n texts
unfoldable pub texts_from : ℕ → List ℕ → ℕ → List (List ℕ)
texts_from n s at = each_from (λ (i : ℕ). bytes_of s (part_named s i)) n at

-- n tags
unfoldable pub tags_from : ℕ → List ℕ → ℕ → List (List (List ℕ))
tags_from n s at = each_from (λ (i : ℕ). texts_from (entries_in (part_named s i)) s (part_named s i).at) n at
