-- The turns of the loops over texts and tags: what one more adds to what is written and to what was measured; and what
-- it says of a length that it fits, or that it doesn't. By the definitions, one step of each.
use Prim.Native.Nat.{ℕ, ◌+◌, ◌*◌, ◌-◌, ◌/◌, ◌≤◌, ◌<◌}
use mathlib.Core.Path.{◌≡◌, refl, sym, ap, ◌∙◌}
use mathlib.Core.List.{List, [], ◌∷◌, ◌++◌, append_assoc}
use mathlib.Core.Bool.{Bool, true, false}
use native.Mathlib.Omega.{arith}
use lib.ListN.{length, length-append}
use lib.Dec.{leb}
use borrow.Author.Tests.{leb-true, leb-false, le-leb, lt-leb}
use Rattle.std.proofs.Common.{Option, Some, None}
use Rattle.std.proofs.lemmas.Option.{none-some}
use Rattle.scan.specs.Choice.{pick}
use Rattle.scan.specs.Bytes.{IsBytes}
use Rattle.buffer.specs.inner.Store.{Wrote}
use Rattle.buffer.proofs.Laws.{Left, part, done, also}
use Rattle.varint.specs.Uleb.{uleb}
use Rattle.event.specs.Event.{Tag}
use Rattle.notepack.specs.declared.Part.{Part}
use Rattle.notepack.specs.Unpack.{bytes_of}
use Rattle.notepack.specs.Strict.{pack_element, pack_elements, pack_tag, pack_tags}
use Rattle.notepack.proofs.Lengths.{tag_form}
use Rattle.pointer.specs.Pointer.{word_at, named, entries_in}
use Rattle.pointer.specs.Named.{part_named}
use Rattle.pointer.specs.inner.Again.{texts_from, tags_from}
use Rattle.pointer.proofs.Again.{texts_count, texts_turn, texts_left, tags_turn, tags_left_lem}
use Rattle.pointer.proofs.Words.{word_below}
use Rattle.pointconvert.specs.inner.Fitting.{fitting}

-- ---- what a pointer names: a word has 64 bits

module _ (s : List ℕ) (at : ℕ) {p : Part} (e : p ≡ named (word_at s at)) where
  pub place_small : IsBytes s → p.at ≤ 4_294_967_368
  place_small bytes = omega (arith, ap (λ (x : Part). x.at) e, word_below s bytes at)

  pub few_named : p.len / 8 ≤ 536_870_912
  few_named = omega (arith, ap (λ (x : Part). x.len) e)

-- ---- a length within the limit

pub fits_so : {n r : ℕ} → Some r ≡ fitting n → (r ≡ n) × (n ≤ 65_536)
fits_so {n} {r} e = go (leb n 65_536) refl e
  where
    go : (t : Bool) → leb n 65_536 ≡ t → Some r ≡ pick t (Some n) None → (r ≡ n) × (n ≤ 65_536)
    go true l e = (cc, leb-true n 65_536 l)
    go false l e = absurd (none-some r (sym e))

pub fits_not : {n : ℕ} → None ≡ fitting n → 65_536 < n
fits_not {n} e = go (leb n 65_536) refl e
  where
    go : (t : Bool) → leb n 65_536 ≡ t → None ≡ pick t (Some n) None → 65_536 < n
    go true l e = absurd (none-some n e)
    go false l e = leb-false n 65_536 l

pub not_fits : {n : ℕ} {r : Option ℕ} → r ≡ None → 65_536 < n → r ≡ fitting n
not_fits {n} e h = rw (lt-leb n 65_536 h) e

pub fits_most : (n : ℕ) {r : ℕ} → Some r ≡ fitting n → r ≤ 65_536
fits_most n e = let f = fits_so e in omega (arith, f.0, f.1)

-- what was gathered and what is left make the whole
module _ (total : ℕ) {left whole : ℕ} (inv : total + left ≡ whole) where
  -- k of what is left go with what was gathered, or make it too long
  module _ (k rest : ℕ) (cut : left ≡ k + rest) where
    sum_more : {r : ℕ} → Some r ≡ fitting (total + k) → r + rest ≡ whole
    sum_more e = omega (arith, inv, cut, (fits_so e).0)

    sum_long : {r : Option ℕ} → None ≡ fitting (total + k) → r ≡ None → r ≡ fitting whole
    sum_long e n = not_fits n (omega (arith, inv, cut, fits_not e))

  -- none is left
  sum_over : left ≡ 0 → total ≤ 65_536 → Some total ≡ fitting whole
  sum_over z h = let e : total ≡ whole = omega (arith, inv, z) in let l = le-leb whole 65_536 (omega (arith, e, h)) in rw (l, e)

-- ---- texts, from a place on

module _ (s : List ℕ) (n i at : ℕ) where
  module _ (h : i < n) {p : Part} (e : p ≡ part_named s (at + 8 * i)) {b : List ℕ} (t : b ≡ bytes_of s p) where
    abbrev texts_behind : Tag
    texts_behind = texts_from (n - (i + 1)) s (at + 8 * (i + 1))

    texts_next : texts_from (n - i) s (at + 8 * i) ≡ b ∷ texts_behind
    texts_next =
        let one : n - (i + 1) ≡ n - i - 1 = omega arith in
        let next : at + 8 * (i + 1) ≡ at + 8 * i + 8 = omega arith in
        rw (one, next, t) (texts_turn s (n - i) (at + 8 * i) (omega arith) e)

    pub texts_put : {d₀ d₁ d₂ : List ℕ} {a₀ a₁ a₂ : ℕ} {all : List ℕ}
        → Left d₀ a₀ all d₁ a₁ (pack_elements (texts_from (n - i) s (at + 8 * i)))
        → Wrote d₁ a₁ (pack_element b) d₂ a₂
        → Left d₀ a₀ all d₂ a₂ (pack_elements texts_behind)
    texts_put inv w = part (also (ap pack_elements texts_next) inv) w

    module _ (total : ℕ) {k whole : ℕ} (size : k ≡ length (pack_element b)) (inv : total + length (pack_elements (texts_from (n - i) s (at + 8 * i))) ≡ whole) where
      texts_cut : length (pack_elements (texts_from (n - i) s (at + 8 * i))) ≡ k + length (pack_elements texts_behind)
      texts_cut = ap (λ (x : Tag). length (pack_elements x)) texts_next ∙ length-append (pack_element b) _ ∙ rw size

      pub texts_more : {r : ℕ} → Some r ≡ fitting (total + k) → r + length (pack_elements texts_behind) ≡ whole
      texts_more f = sum_more total inv k (length (pack_elements texts_behind)) texts_cut f

      pub texts_long : {r : Option ℕ} → None ≡ fitting (total + k) → r ≡ None → r ≡ fitting whole
      texts_long f r = sum_long total inv k (length (pack_elements texts_behind)) texts_cut f r

  -- behind the last
  module _ (h : n ≤ i) where
    texts_over : texts_from (n - i) s (at + 8 * i) ≡ []
    texts_over = texts_left s (n - i) (at + 8 * i) (omega arith)

    pub texts_done : {d₀ d₁ : List ℕ} {a₀ a₁ : ℕ} {all : List ℕ} → Left d₀ a₀ all d₁ a₁ (pack_elements (texts_from (n - i) s (at + 8 * i))) → Wrote d₀ a₀ all d₁ a₁
    texts_done inv = done (also (ap pack_elements texts_over) inv)

  pub texts_fit : (total : ℕ) {whole : ℕ} → total + length (pack_elements (texts_from (n - i) s (at + 8 * i))) ≡ whole → n ≤ i → total ≤ 65_536 → Some total ≡ fitting whole
  texts_fit total inv h m = sum_over total inv (ap (λ (x : Tag). length (pack_elements x)) (texts_over h)) m

-- ---- tags, from a place on: of each its count and its elements

module _ (s : List ℕ) (n i at : ℕ) where
  module _ (h : i < n) {b : List ℕ} {k a : ℕ} (same : b ≡ s) (place : a ≡ (part_named s (at + 8 * i)).at) (count : k ≡ entries_in (part_named s (at + 8 * i))) where
    abbrev tags_behind : List Tag
    tags_behind = tags_from (n - (i + 1)) s (at + 8 * (i + 1))

    tags_next : tags_from (n - i) s (at + 8 * i) ≡ texts_from k b a ∷ tags_behind
    tags_next =
        let one : n - (i + 1) ≡ n - i - 1 = omega arith in
        let next : at + 8 * (i + 1) ≡ at + 8 * i + 8 = omega arith in
        rw (one, next, same, place, count) (tags_turn s (n - i) (at + 8 * i) (omega arith) refl)

    tag_more : pack_tags (tags_from (n - i) s (at + 8 * i)) ≡ uleb k ++ (pack_elements (texts_from k b a) ++ pack_tags tags_behind)
    tag_more =
        let ts = texts_from k b a in
        let f : pack_tag ts ≡ uleb k ++ pack_elements ts = tag_form ts ∙ rw (texts_count b k a) in
        ap pack_tags tags_next ∙ ap (λ (x : List ℕ). x ++ pack_tags tags_behind) f ∙ append_assoc (uleb k) (pack_elements ts) (pack_tags tags_behind)

    pub tags_put : {d₀ d₁ d₂ d₃ : List ℕ} {a₀ a₁ a₂ a₃ : ℕ} {all : List ℕ}
        → Left d₀ a₀ all d₁ a₁ (pack_tags (tags_from (n - i) s (at + 8 * i)))
        → Wrote d₁ a₁ (uleb k) d₂ a₂ → Wrote d₂ a₂ (pack_elements (texts_from k b a)) d₃ a₃
        → Left d₀ a₀ all d₃ a₃ (pack_tags tags_behind)
    tags_put inv v w = part (part (also tag_more inv) v) w

    module _ (total : ℕ) {c whole : ℕ} (size : c ≡ length (uleb k)) (inv : total + length (pack_tags (tags_from (n - i) s (at + 8 * i))) ≡ whole) where
      tags_cut : length (pack_tags (tags_from (n - i) s (at + 8 * i))) ≡ c + (length (pack_elements (texts_from k b a)) + length (pack_tags tags_behind))
      tags_cut =
          let ts = texts_from k b a in
          ap length tag_more
          ∙ omega (arith, size, length-append (uleb k) (pack_elements ts ++ pack_tags tags_behind), length-append (pack_elements ts) (pack_tags tags_behind))

      abbrev texts : ℕ
      texts = length (pack_elements (texts_from k b a))

      abbrev tags : ℕ
      tags = length (pack_tags tags_behind)

      pub count_long : {r : Option ℕ} → None ≡ fitting (total + c) → r ≡ None → r ≡ fitting whole
      count_long f r = sum_long total inv c (texts + tags) tags_cut f r

      module _ (before : ℕ) (f : Some before ≡ fitting (total + c)) where
        pub tags_long : {r : Option ℕ} → None ≡ fitting (before + texts) → r ≡ None → r ≡ fitting whole
        tags_long g r = sum_long before (sum_more total inv c (texts + tags) tags_cut f) texts tags refl g r

        pub tags_more : {r : ℕ} → Some r ≡ fitting (before + texts) → r + tags ≡ whole
        tags_more g = sum_more before (sum_more total inv c (texts + tags) tags_cut f) texts tags refl g

  -- behind the last
  module _ (h : n ≤ i) where
    tags_over : tags_from (n - i) s (at + 8 * i) ≡ []
    tags_over = tags_left_lem s (n - i) (at + 8 * i) (omega arith)

    pub tags_done : {d₀ d₁ : List ℕ} {a₀ a₁ : ℕ} {all : List ℕ} → Left d₀ a₀ all d₁ a₁ (pack_tags (tags_from (n - i) s (at + 8 * i))) → Wrote d₀ a₀ all d₁ a₁
    tags_done inv = done (also (ap pack_tags tags_over) inv)

  pub tags_fit : (total : ℕ) {whole : ℕ} → total + length (pack_tags (tags_from (n - i) s (at + 8 * i))) ≡ whole → n ≤ i → total ≤ 65_536 → Some total ≡ fitting whole
  tags_fit total inv h m = sum_over total inv (ap (λ (x : List Tag). length (pack_tags x)) (tags_over h)) m

-- for the loops: measuring and writing, of texts and of tags
pub ruleset texts_measured = (texts_more, texts_long, texts_fit, fits_most)

pub ruleset texts_written = (texts_put, texts_done)

pub ruleset tags_measured = (count_long, tags_long, tags_more, tags_fit, fits_most)

pub ruleset tags_written = (tags_put, tags_done)
