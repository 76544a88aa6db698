-- The turns of the loops over texts and tags: what one more adds to the lengths, the pointers and the pieces.
-- Each by one step of the definition; l is what is left, m what is left behind it.
use Prim.Native.Nat.{ℕ, ◌+◌, ◌*◌, ◌-◌, ◌<◌, ◌≤◌}
use mathlib.Core.Path.{◌≡◌, refl, sym, ap, ◌∙◌}
use mathlib.Core.List.{List, [], ◌∷◌, ◌++◌}
use native.Mathlib.Omega.{arith}
use lib.ListN.{length, length-append}
use Rattle.buffer.specs.inner.Store.{Wrote}
use Rattle.buffer.proofs.Laws.{Left, part, done, also}
use Rattle.event.specs.Event.{Tag}
use Rattle.notepack.specs.declared.Part.{Part}
use Rattle.notepack.specs.Unpack.{text_of}
use Rattle.notepack.specs.inner.Again.{part_again, count_again, texts_again, texts_end, tags_again}
use Rattle.notepack.proofs.Again.{texts_count, texts_turn, texts_left, tags_turn, tags_left_lem}
use Rattle.pointer.specs.Layout.{pointer, word}
use Rattle.pointer.specs.Written.{padded_text, padded_texts, text_pointers, tag_piece, tag_size, tag_pieces, tag_pointers}
use Rattle.pointwrite.specs.inner.Pieces.{tag_texts, tag_end, tags_size}
use Rattle.pointwrite.proofs.Lengths.{length_padded}

-- ---- the loops over texts: of n texts k are passed, and the next stands at a place

module _ (s : List ℕ) (n k at : ℕ) where
  module _ (l : k < n) {p : Part} {next : ℕ} (e : p ≡ (part_again s at).value) (f : next ≡ (part_again s at).next) where
    text_turn : (texts_again (n - k) s at ≡ text_of s p ∷ texts_again (n - (k + 1)) s next) × (texts_end (n - k) s at ≡ texts_end (n - (k + 1)) s next)
    text_turn = let one : n - (k + 1) ≡ n - k - 1 = omega arith in rw one (texts_turn s (n - k) at (omega arith) e f)

    pub text_ends : {x : ℕ} → x ≡ texts_end (n - k) s at → x ≡ texts_end (n - (k + 1)) s next
    text_ends g = g ∙ text_turn.1

    pub text_gathered : (len : ℕ) {m x : ℕ} → len + length (padded_texts (texts_again (n - k) s at)) ≡ x → m ≡ length (padded_text (text_of s p))
        → len + m + length (padded_texts (texts_again (n - (k + 1)) s next)) ≡ x
    text_gathered len {m} {x} g h =
        omega (
          arith,
          g,
          h,
          ap (λ (ts : Tag). length (padded_texts ts)) text_turn.0,
          length-append (padded_text (text_of s p)) (padded_texts (texts_again (n - (k + 1)) s next)),
        )

    -- it stands in the data
    pub text_fits : (len : ℕ) {q x : ℕ} → len + length (padded_texts (texts_again (n - k) s at)) ≡ x → x ≤ 65_536 → q ≡ length (text_of s p) → len + q ≤ 65_536
    text_fits len {q} {x} g b h = omega (arith, text_gathered len g refl, b, h, length_padded (text_of s p))

    module _ {d : List ℕ} {place : ℕ} {all d' : List ℕ} {o : ℕ} {d'' : List ℕ} {o' : ℕ} where
      pub text_written : Left d place all d' o (padded_texts (texts_again (n - k) s at)) → Wrote d' o (padded_text (text_of s p)) d'' o'
          → Left d place all d'' o' (padded_texts (texts_again (n - (k + 1)) s next))
      text_written g w = part (also (ap padded_texts text_turn.0) g) w

      pub text_pointed : (offset : ℕ) {len m : ℕ} → Left d place all d' o (text_pointers offset (texts_again (n - k) s at))
          → len ≡ length (text_of s p) → m ≡ length (padded_text (text_of s p)) → Wrote d' o (word (pointer offset len)) d'' o'
          → Left d place all d'' o' (text_pointers (offset + m) (texts_again (n - (k + 1)) s next))
      text_pointed offset {len} {m} g h i w = part (also (rw (text_turn.0, h, i)) g) w

  -- none is left
  module _ (l : n ≤ k) where
    no_text : (texts_again (n - k) s at ≡ []) × (texts_end (n - k) s at ≡ at)
    no_text = texts_left s (n - k) at (omega arith)

    pub texts_ended : {x : ℕ} → x ≡ texts_end (n - k) s at → at ≡ x
    texts_ended g = sym (g ∙ no_text.1)

    pub texts_gathered : {len x : ℕ} → len + length (padded_texts (texts_again (n - k) s at)) ≡ x → len ≡ x
    texts_gathered {len} {x} g = omega (arith, g, ap (λ (ts : Tag). length (padded_texts ts)) no_text.0)

    module _ {d : List ℕ} {place : ℕ} {all d' : List ℕ} {o : ℕ} where
      pub texts_written : Left d place all d' o (padded_texts (texts_again (n - k) s at)) → Wrote d place all d' o
      texts_written g = done (also (ap padded_texts no_text.0) g)

      pub texts_pointed : (offset : ℕ) → Left d place all d' o (text_pointers offset (texts_again (n - k) s at)) → Wrote d place all d' o
      texts_pointed offset g = done (also (ap (text_pointers offset) no_text.0) g)

pub ruleset text_steps = (text_ends, text_gathered, text_written, text_pointed, texts_written, texts_pointed)

-- ---- a tag

-- the tag whose count and first text are told
module _ (s : List ℕ) (at : ℕ) {n : ℕ} (e : n ≡ (count_again s at).value) where
  pub tag_table_lem : 8 * n ≡ 8 * length (tag_texts s at)
  tag_table_lem = rw (texts_count s (count_again s at).value (count_again s at).next, e)

  module _ {first : ℕ} (f : first ≡ (count_again s at).next) where
    same_tag : texts_again n s first ≡ tag_texts s at
    same_tag = rw (e, f)

    pub tag_ends : {end : ℕ} → end ≡ texts_end n s first → end ≡ tag_end s at
    tag_ends g = g ∙ rw (e, f)

    pub tag_sized : {k : ℕ} → k ≡ length (padded_texts (texts_again n s first)) → 8 * n + k ≡ tag_size (tag_texts s at)
    tag_sized g = omega (arith, tag_table_lem, g, ap (λ (x : Tag). length (padded_texts x)) same_tag)

    -- where it stands in the data
    module _ (o : ℕ) where
      pub tag_room : o + tag_size (tag_texts s at) ≤ 65_536 → o + 8 * n + length (padded_texts (texts_again n s first)) ≤ 65_536
      tag_room h = omega (arith, h, tag_sized refl)

      pub tag_behind : {k : ℕ} → k ≡ o + 8 * n + length (padded_texts (texts_again n s first)) → k ≡ o + tag_size (tag_texts s at)
      tag_behind g = omega (arith, g, tag_sized refl)

      pub tag_wrote : {d : List ℕ} {place : ℕ} {d' : List ℕ} {r : ℕ}
          → Wrote d place (text_pointers (o + 8 * n) (texts_again n s first) ++ padded_texts (texts_again n s first)) d' r
          → Wrote d place (tag_piece o (tag_texts s at)) d' r
      unfolding tag_piece
      tag_wrote w = rw (← tag_table_lem, ← same_tag) w

-- ---- the loops over tags: of n tags k are passed, and the next stands at a place

module _ (s : List ℕ) (n k at : ℕ) where
  module _ (l : k < n) {end : ℕ} (e : end ≡ tag_end s at) where
    tag_turn : tags_again (n - k) s at ≡ tag_texts s at ∷ tags_again (n - (k + 1)) s end
    tag_turn = let one : n - (k + 1) ≡ n - k - 1 = omega arith in rw one (tags_turn s (n - k) at (omega arith) refl refl e)

    pub tag_gathered : (len : ℕ) {m x : ℕ} → len + tags_size (tags_again (n - k) s at) ≡ x → m ≡ tag_size (tag_texts s at) → len + m + tags_size (tags_again (n - (k + 1)) s end) ≡ x
    tag_gathered len {m} {x} g h = omega (arith, g, h, ap tags_size tag_turn)

    pub tag_reached : (len : ℕ) {m x : ℕ} → len + tags_size (tags_again (n - k) s at) ≡ x → m ≡ len + tag_size (tag_texts s at) → m + tags_size (tags_again (n - (k + 1)) s end) ≡ x
    tag_reached len {m} {x} g h = omega (arith, g, h, ap tags_size tag_turn)

    module _ (offset : ℕ) {d : List ℕ} {place : ℕ} {all d' : List ℕ} {o : ℕ} {d'' : List ℕ} {o' : ℕ} where
      pub tag_written : {m : ℕ} → Left d place all d' o (tag_pieces offset (tags_again (n - k) s at)) → m ≡ offset + tag_size (tag_texts s at)
          → Wrote d' o (tag_piece offset (tag_texts s at)) d'' o' → Left d place all d'' o' (tag_pieces m (tags_again (n - (k + 1)) s end))
      tag_written {m} g h w = part (also (rw (tag_turn, h)) g) w

      pub tag_pointed : {len m : ℕ} → Left d place all d' o (tag_pointers offset (tags_again (n - k) s at))
          → len ≡ 8 * length (tag_texts s at) → m ≡ tag_size (tag_texts s at) → Wrote d' o (word (pointer offset len)) d'' o'
          → Left d place all d'' o' (tag_pointers (offset + m) (tags_again (n - (k + 1)) s end))
      tag_pointed {len} {m} g h i w = part (also (rw (tag_turn, h, i)) g) w

  -- it stands in the data
  pub tag_fits : k < n → (len : ℕ) {x : ℕ} → len + tags_size (tags_again (n - k) s at) ≡ x → x ≤ 65_536 → len + tag_size (tag_texts s at) ≤ 65_536
  tag_fits l len {x} g b = omega (arith, tag_gathered l refl len g refl, b)

  -- none is left
  module _ (l : n ≤ k) where
    no_tag : tags_again (n - k) s at ≡ []
    no_tag = tags_left_lem s (n - k) at (omega arith)

    pub tags_gathered : {len x : ℕ} → len + tags_size (tags_again (n - k) s at) ≡ x → len ≡ x
    tags_gathered {len} {x} g = omega (arith, g, ap tags_size no_tag)

    module _ (offset : ℕ) {d : List ℕ} {place : ℕ} {all d' : List ℕ} {o : ℕ} where
      pub tags_written : Left d place all d' o (tag_pieces offset (tags_again (n - k) s at)) → Wrote d place all d' o
      tags_written g = done (also (ap (tag_pieces offset) no_tag) g)

      pub tags_pointed : Left d place all d' o (tag_pointers offset (tags_again (n - k) s at)) → Wrote d place all d' o
      tags_pointed g = done (also (ap (tag_pointers offset) no_tag) g)

pub ruleset tag_steps = (tag_gathered, tag_reached, tag_written, tag_pointed, tags_written, tags_pointed)
