-- The turns of the two loops that write: one item or one tag is written, the others are left. Then the same in the
-- loops' words, where i of n are done.
-- By the definitions, one step each.
use Prim.Native.Nat.{ℕ, zero, suc, ◌+◌, ◌*◌, ◌-◌, ◌<◌, ◌≤◌}
use mathlib.Core.Path.{◌≡◌, refl, sym, ◌∙◌}
use mathlib.Core.List.{List, [], ◌++◌}
use native.Mathlib.Omega.{arith}
use Rattle.buffer.specs.inner.Store.{Wrote}
use Rattle.buffer.proofs.Laws.{Left, start, part, done, also}
use Rattle.varint.specs.Uleb.{uleb}
use Rattle.jsontext.specs.inner.Escape.{unescape}
use Rattle.notepack.specs.Strict.{pack_element}
use Rattle.nson.specs.Read.{part_at, word_here, byte_here}
use Rattle.nsonwalk.specs.inner.Walk.{tags_place_most}
use Rattle.nsonread.specs.inner.Copy.{items_text, items_end, nson_tags_text, items_place_most}

-- each of 255 tags: at most 255 items of a text, two quotes and a comma, and two bytes more by its own brackets and
-- comma
items_place_most_lem : items_place_most ≡ tags_place_most + (65_538 * 255 + 2) * 255
items_place_most_lem = refl

module _ (s : List ℕ) where
  items_write : (left d at : ℕ) {w : ℕ} → 0 < left → w ≡ word_here s d
      → (items_text left s d at ≡ pack_element (unescape (part_at w s (at + 1))) ++ items_text (left - 1) s (d + 4) (at + (w + 3)))
      × (items_end left s d at ≡ items_end (left - 1) s (d + 4) (at + (w + 3)))
  unfolding items_text items_end
  items_write zero d at h e = absurd (omega arith)
  items_write (suc n) d at h e = let k : suc n - 1 ≡ n = omega arith in (rw (e, k) refl, rw (e, k) refl)

  items_written : (left d at : ℕ) → left ≤ 0 → (items_text left s d at ≡ []) × (items_end left s d at ≡ at)
  unfolding items_text items_end
  items_written zero d at h = (refl, refl)
  items_written (suc n) d at h = absurd (omega arith)

  tags_write : (left d at : ℕ) {w e : ℕ} → 0 < left → w ≡ byte_here s d → e ≡ items_end w s (d + 2) (at + 1)
      → nson_tags_text left s d at ≡ uleb w ++ (items_text w s (d + 2) (at + 1) ++ nson_tags_text (left - 1) s (d + (2 + 4 * w)) (e + 1))
  unfolding nson_tags_text
  tags_write zero d at h q f = absurd (omega arith)
  tags_write (suc n) d at h q f = let k : suc n - 1 ≡ n = omega arith in rw (f, q, k) refl

  tags_written : (left d at : ℕ) → left ≤ 0 → nson_tags_text left s d at ≡ []
  unfolding nson_tags_text
  tags_written zero d at h = refl
  tags_written (suc n) d at h = absurd (omega arith)

module _ (s : List ℕ) (n i d at : ℕ) {b₀ : List ℕ} {o₀ : ℕ} {all b₁ : List ℕ} {o₁ : ℕ} where
  pub item_wrote : {b₂ : List ℕ} {o₂ w : ℕ} → Left b₀ o₀ all b₁ o₁ (items_text (n - i) s (d + 4 * i) at) → i < n → w ≡ word_here s (d + 4 * i)
      → Wrote b₁ o₁ (pack_element (unescape (part_at w s (at + 1)))) b₂ o₂ → Left b₀ o₀ all b₂ o₂ (items_text (n - (i + 1)) s (d + 4 * (i + 1)) (at + (w + 3)))
  item_wrote l h e x =
      let one : n - (i + 1) ≡ n - i - 1 = omega arith in
      let next : d + 4 * (i + 1) ≡ d + 4 * i + 4 = omega arith in
      rw (one, next) (part (also (items_write s (n - i) (d + 4 * i) at (omega arith) e).0 l) x)

  pub items_wrote : Left b₀ o₀ all b₁ o₁ (items_text (n - i) s (d + 4 * i) at) → n ≤ i → Wrote b₀ o₀ all b₁ o₁
  items_wrote l h = done (also (items_written s (n - i) (d + 4 * i) at (omega arith)).0 l)

  pub tag_wrote : {b₂ b₃ : List ℕ} {o₂ o₃ w e : ℕ} → Left b₀ o₀ all b₁ o₁ (nson_tags_text (n - i) s d at) → i < n → w ≡ byte_here s d → e ≡ items_end w s (d + 2) (at + 1)
      → Wrote b₁ o₁ (uleb w) b₂ o₂ → Wrote b₂ o₂ (items_text w s (d + 2) (at + 1)) b₃ o₃ → Left b₀ o₀ all b₃ o₃ (nson_tags_text (n - (i + 1)) s (d + 2 + 4 * w) (e + 1))
  tag_wrote {w = w} l h f g x y =
      let one : n - (i + 1) ≡ n - i - 1 = omega arith in
      let next : d + 2 + 4 * w ≡ d + (2 + 4 * w) = omega arith in
      rw (one, next) (part (part (also (tags_write s (n - i) d at (omega arith) f g) l) x) y)

  pub tags_wrote : Left b₀ o₀ all b₁ o₁ (nson_tags_text (n - i) s d at) → n ≤ i → Wrote b₀ o₀ all b₁ o₁
  tags_wrote l h = done (also (tags_written s (n - i) d at (omega arith)) l)

module _ (s : List ℕ) (n i d at : ℕ) {e : ℕ} (is : e ≡ items_end (n - i) s (d + 4 * i) at) where
  pub item_ends : {w : ℕ} → i < n → w ≡ word_here s (d + 4 * i) → e ≡ items_end (n - (i + 1)) s (d + 4 * (i + 1)) (at + (w + 3))
  item_ends h f =
      let one : n - (i + 1) ≡ n - i - 1 = omega arith in
      let next : d + 4 * (i + 1) ≡ d + 4 * i + 4 = omega arith in
      rw (one, next) (is ∙ (items_write s (n - i) (d + 4 * i) at (omega arith) f).1)

  pub items_ended : n ≤ i → at ≡ e
  items_ended h = sym (is ∙ (items_written s (n - i) (d + 4 * i) at (omega arith)).1)

-- what the two loops are found by
pub ruleset item_turns = (start, item_wrote, items_wrote, item_ends, items_ended)

pub ruleset tag_turns = (start, tag_wrote, tags_wrote)
