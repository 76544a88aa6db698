-- The bounds, from what a count of one byte and of two can say.
-- Each is a line of arithmetic.
use Prim.Native.Nat.{◌+◌, ◌*◌}
use mathlib.Core.Path.{◌≡◌, refl}
use Rattle.nson.specs.inner.Places.{descriptors_place, around_kind, before_tags}
use Rattle.nsonwalk.specs.inner.Walk.{element_most, tag_most, tags_place_most}

-- a varint takes at most ten bytes
element_most_lem : element_most ≡ 65_535 + 10
element_most_lem = refl

tag_most_lem : tag_most ≡ 10 + element_most * 255
tag_most_lem = refl

-- behind 255 digits of descriptors, a kind of five characters and a content of 65,535 bytes
tags_place_most_lem : tags_place_most ≡ descriptors_place + 255 + around_kind + 5 + 65_535 + before_tags
tags_place_most_lem = refl
