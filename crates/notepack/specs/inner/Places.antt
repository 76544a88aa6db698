-- A tag and an element by walking from place to place; `proofs/Viewing` shows that these are the views. Assumes
-- nothing.
use Rattle.std.specs.Prelude.{ℕ, List, ltb}
use Rattle.scan.specs.Choice.{pick, Answer, refused, Read, and_then}
use Rattle.notepack.specs.declared.Part.{Part}
use Rattle.notepack.specs.Unpack.{element_at, elements_at, tag_count_at, tags_standing}
use Rattle.notepack.specs.Views.{numbers_of}

unfoldable pub tag_start : ℕ → List ℕ → Answer (Read ℕ)
tag_start i s =
    and_then (numbers_of s) λ h.
    pick (ltb i h.tag_count) (and_then (tags_standing i s h.tags_at) λ t. tag_count_at s t.next) (refused 19 0)

unfoldable pub element_place : ℕ → ℕ → List ℕ → Answer (Read Part)
element_place i j s =
    and_then (tag_start i s) λ n.
    pick (ltb j n.value) (and_then (elements_at j s n.next) λ e. element_at s e.next) (refused 19 0)
