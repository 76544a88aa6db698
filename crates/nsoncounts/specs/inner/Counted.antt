-- What is kept of NSON's counts: places, the counts that stand alone, and those of the tags as they stand. Assumes
-- nothing.
use Rattle.std.specs.Prelude.{ℕ, zero, suc, ◌+◌, ◌*◌, Bool, true, false, List, [], ◌∷◌, length, leb, eqb}
use Rattle.scan.specs.Choice.{pick, Answer, shown, refused, Read, read, and_then, many}
use Rattle.scan.specs.Place.{byte_at}
use Rattle.hexdigits.specs.Hex.{all_digits}
use Rattle.jsontext.specs.inner.Escape.{unescape}
use Rattle.nson.specs.Nson.{Counts}
use Rattle.nson.specs.inner.Places.{size_place, tag_counts_place}
use Rattle.nson.specs.Read.{part_at, text_at, byte_here, word_here, byte_count_at, word_count_at, kind_count_at, tag_counts_at}
use Rattle.nsoncounts.specs.declared.Sizes.{Sizes}

-- the place behind a read
abbrev pub next_of : {A : Type 0} → Answer (Read A) → Answer ℕ
next_of r = and_then r λ x. shown x.next

-- a number that was read, if it is at most max; else a refusal at the place given
abbrev pub up_to : ℕ → ℕ → ℕ → Answer (Read ℕ) → Answer (Read ℕ)
up_to max over at r = and_then r λ k. pick (leb k.value max) (shown k) (refused over at)

-- whether digits that end at a place are n, with no leading zero unless it is all
unfoldable pub full_width : ℕ → List ℕ → ℕ → Bool
full_width n l end = pick (eqb end n) (pick (eqb (byte_at l 0) 48) (eqb n 1) true) false

-- a counted text, with the length of what it spells
abbrev pub text_size_at : ℕ → List ℕ → ℕ → Answer (Read ℕ)
text_size_at n s at = and_then (text_at n s at) λ p. read (length (unescape (part_at n s at))) p

-- whether n lowercase hex digits stand at a place
unfoldable pub is_hex : ℕ → List ℕ → ℕ → Bool
is_hex n s at = pick (eqb (length (part_at n s at)) n) (all_digits (part_at n s at)) false

-- the counts of n items and of n tags, as they stand from place d on
unfoldable pub item_sizes : ℕ → List ℕ → ℕ → List ℕ
item_sizes zero s d = []
item_sizes (suc n) s d = word_here s d ∷ item_sizes n s (d + 4)

unfoldable pub tag_sizes : ℕ → List ℕ → ℕ → List (List ℕ)
tag_sizes zero s d = []
tag_sizes (suc n) s d = item_sizes (byte_here s d) s (d + 2) ∷ tag_sizes n s (d + (2 + 4 * byte_here s d))

-- the counts that stand alone
abbrev pub sizes_of : Counts → Sizes
sizes_of n = record { kind = n.kind; content = n.content; tags = length n.tags }

-- the counts that stand alone, up to an end, and the place behind all: those of the tags are passed over
unfoldable pub sizes_to : ℕ → List ℕ → ℕ → Answer (Read Sizes)
sizes_to end s at =
    and_then (kind_count_at end s at) λ k.
    and_then (word_count_at end s k.next) λ c.
    and_then (byte_count_at end s c.next) λ n.
    and_then (next_of (many (tag_counts_at end s) n.value n.next)) λ d.
    pick (eqb d end) (read (record { kind = k.value; content = c.value; tags = n.value }) d) (refused 13 size_place)

-- the counts again, those of the tags from their places
abbrev pub counts_of : List ℕ → Sizes → Counts
counts_of s z = record { kind = z.kind; content = z.content; tags = tag_sizes z.tags s tag_counts_place }
