-- The turns of the two loops over items and over tags. Each is the general one of `Sizing` with the counts of the item
-- at hand.
use Prim.Native.Nat.{ℕ, zero, suc, ◌+◌, ◌*◌, ◌-◌, ◌<◌, ◌≤◌}
use mathlib.Core.Path.{◌≡◌, refl, ◌∙◌}
use mathlib.Core.Bool.{Bool, false}
use mathlib.Core.List.{List, [], ◌∷◌}
use native.Mathlib.Nat.{zero-add, add-zero}
use native.Mathlib.Omega.{arith}
use lib.ListN.{length}
use Rattle.std.proofs.Common.{nat_lt}
use borrow.Author.Tests.{lt-ltb}
use Rattle.scan.specs.Choice.{Answer, shown, refused, Read, read, and_then}
use Rattle.notepack.specs.Strict.{pack_element, pack_elements, pack_tag, pack_tags}
use Rattle.nson.specs.Read.{comma_at, items_at, item_at, tag_at, word_here, byte_here}
use Rattle.nsoncounts.specs.inner.Counted.{item_sizes, tag_sizes}
use Rattle.nsonwalk.specs.inner.Walk.{sized}
use Rattle.nsoncounts.proofs.Laws.{then_same}
use Rattle.nsonwalk.proofs.Sizing.{items_more}

-- what is left of the items, and of the tags, with the length so far
unfoldable pub items_left : List ℕ → ℕ → Bool → ℕ → ℕ → ℕ → Answer (Read ℕ)
items_left s total later left place at =
    and_then (items_at (item_at s) later (item_sizes left s place) s at) λ xs. read (total + length (pack_elements xs.value)) xs.next

unfoldable pub tags_left : List ℕ → ℕ → Bool → ℕ → ℕ → ℕ → Answer (Read ℕ)
tags_left s total later left place at =
    and_then (items_at (tag_at s) later (tag_sizes left s place) s at) λ xs. read (total + length (pack_tags xs.value)) xs.next

-- ---- the counts, one more and none: i of n are done

items_first : (s : List ℕ) (n i d : ℕ) → i < n → item_sizes (n - i) s (d + 4 * i) ≡ word_here s (d + 4 * i) ∷ item_sizes (n - (i + 1)) s (d + 4 * (i + 1))
unfolding item_sizes
items_first s n i d h =
    let one : n - i ≡ suc (n - (i + 1)) = omega arith in
    let next : d + 4 * (i + 1) ≡ d + 4 * i + 4 = omega arith in
    rw (one, next) refl

items_end : (left : ℕ) (s : List ℕ) (d : ℕ) → left ≤ 0 → item_sizes left s d ≡ []
unfolding item_sizes
items_end zero s d h = refl
items_end (suc left) s d h = absurd (omega arith)

tags_first : (s : List ℕ) (n i d : ℕ) → i < n → tag_sizes (n - i) s d ≡ item_sizes (byte_here s d) s (d + 2) ∷ tag_sizes (n - (i + 1)) s (d + 2 + 4 * byte_here s d)
unfolding tag_sizes
tags_first s n i d h =
    let one : n - i ≡ suc (n - (i + 1)) = omega arith in
    let next : d + 2 + 4 * byte_here s d ≡ d + (2 + 4 * byte_here s d) = omega arith in
    rw (one, next) refl

tags_end : (left : ℕ) (s : List ℕ) (d : ℕ) → left ≤ 0 → tag_sizes left s d ≡ []
unfolding tag_sizes
tags_end zero s d h = refl
tags_end (suc left) s d h = absurd (omega arith)

-- ---- the loops: they begin, they are done

pub items_begin : (s : List ℕ) (n place at : ℕ)
    → sized pack_elements (items_at (item_at s) false (item_sizes n s place) s at) ≡ items_left s 0 false n place at
unfolding sized items_left
items_begin s n place at =
    then_same (items_at (item_at s) false (item_sizes n s place) s at) _ _ (λ xs e. rw zero-add refl)

pub tags_begin : (s : List ℕ) (n place at : ℕ)
    → sized pack_tags (items_at (tag_at s) false (tag_sizes n s place) s at) ≡ tags_left s 0 false n place at
unfolding sized tags_left
tags_begin s n place at =
    then_same (items_at (tag_at s) false (tag_sizes n s place) s at) _ _ (λ xs e. rw zero-add refl)

module _ (s : List ℕ) (total : ℕ) (later : Bool) (left place at : ℕ) where
  pub items_done : left ≤ 0 → items_left s total later left place at ≡ read total at
  unfolding items_left items_at
  items_done h = rw (items_end left s place h, add-zero) refl

  pub tags_done : left ≤ 0 → tags_left s total later left place at ≡ read total at
  unfolding tags_left items_at
  tags_done h = rw (tags_end left s place h, add-zero) refl

-- ---- they go on, or end at a refusal: X is the whole

module _ (s : List ℕ) (total n i d at : ℕ) {X : Answer (Read ℕ)} (inv : X ≡ items_left s total (nat_lt 0 i) (n - i) (d + 4 * i) at) (h : i < n) where
  items_next : X ≡ and_then (comma_at (nat_lt 0 i) s at) λ a.
      and_then (sized pack_element (item_at s (word_here s (d + 4 * i)) a)) λ m.
      items_left s (total + m.value) (nat_lt 0 (i + 1)) (n - (i + 1)) (d + 4 * (i + 1)) m.next
  unfolding items_left
  items_next =
      inv
      ∙ rw (items_first s n i d h, lt-ltb 0 (i + 1) (omega arith))
      (items_more (item_at s) pack_element pack_elements (λ x xs. refl) (nat_lt 0 i) (word_here s (d + 4 * i)) (item_sizes (n - (i + 1)) s (d + 4 * (i + 1))) s at total)

  pub comma_stops : {k p : ℕ} → refused k p ≡ comma_at (nat_lt 0 i) s at → refused k p ≡ X
  comma_stops e = rw (items_next, ← e) refl

  pub item_stops : {a w k p : ℕ} → shown a ≡ comma_at (nat_lt 0 i) s at → w ≡ word_here s (d + 4 * i) → refused k p ≡ sized pack_element (item_at s w a) → refused k p ≡ X
  item_stops e f g = rw (items_next, ← e, ← f, ← g) refl

  pub items_on : {a w m p : ℕ} → shown a ≡ comma_at (nat_lt 0 i) s at → w ≡ word_here s (d + 4 * i) → read m p ≡ sized pack_element (item_at s w a)
      → X ≡ items_left s (total + m) (nat_lt 0 (i + 1)) (n - (i + 1)) (d + 4 * (i + 1)) p
  items_on e f g = rw (items_next, ← e, ← f, ← g) refl

module _ (s : List ℕ) (total n i d at : ℕ) {X : Answer (Read ℕ)} (inv : X ≡ tags_left s total (nat_lt 0 i) (n - i) d at) (h : i < n) where
  tags_next : X ≡ and_then (comma_at (nat_lt 0 i) s at) λ a.
      and_then (sized pack_tag (tag_at s (item_sizes (byte_here s d) s (d + 2)) a)) λ m.
      tags_left s (total + m.value) (nat_lt 0 (i + 1)) (n - (i + 1)) (d + 2 + 4 * byte_here s d) m.next
  unfolding tags_left
  tags_next =
      inv
      ∙ rw (tags_first s n i d h, lt-ltb 0 (i + 1) (omega arith))
      (items_more (tag_at s) pack_tag pack_tags (λ x xs. refl) (nat_lt 0 i) (item_sizes (byte_here s d) s (d + 2)) (tag_sizes (n - (i + 1)) s (d + 2 + 4 * byte_here s d)) s at total)

  pub tag_comma_stops : {k p : ℕ} → refused k p ≡ comma_at (nat_lt 0 i) s at → refused k p ≡ X
  tag_comma_stops e = rw (tags_next, ← e) refl

  pub tag_stops : {a w k p : ℕ} → shown a ≡ comma_at (nat_lt 0 i) s at → w ≡ byte_here s d → refused k p ≡ sized pack_tag (tag_at s (item_sizes w s (d + 2)) a) → refused k p ≡ X
  tag_stops e f g = rw (tags_next, ← e, ← f, ← g) refl

  pub tags_on : {a v w m p : ℕ} → shown a ≡ comma_at (nat_lt 0 i) s at → w ≡ byte_here s d → v ≡ w → read m p ≡ sized pack_tag (tag_at s (item_sizes w s (d + 2)) a)
      → X ≡ tags_left s (total + m) (nat_lt 0 (i + 1)) (n - (i + 1)) (d + 2 + 4 * v) p
  tags_on e f q g = rw (tags_next, q, ← e, ← f, ← g) refl

-- what each loop is found by
pub ruleset item_turns = (items_begin, comma_stops, item_stops, items_on, items_done)

pub ruleset tag_turns = (tags_begin, tag_comma_stops, tag_stops, tags_on, tags_done)
