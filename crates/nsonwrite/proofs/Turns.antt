-- The turns of the measure: what a text or a tag more adds to whether all fit, and to the descriptors.
-- Each by one step of the definition; l is what is left, m what is left behind it.
use Prim.Native.Nat.{ℕ, ◌+◌}
use mathlib.Core.Path.{◌≡◌, refl}
use mathlib.Core.Bool.{true, false}
use mathlib.Core.List.{List, [], ◌∷◌, ◌++◌, map}
use lib.ListN.{length, length-map}
use Rattle.buffer.specs.inner.Store.{Wrote}
use Rattle.decimal.specs.Decimal.{decimal}
use Rattle.escape.specs.Escape.{nson_byte}
use Rattle.event.specs.Event.{Text, Tag}
use Rattle.notepack.specs.declared.Head.{Head}
use Rattle.notepack.specs.Unpack.{text_of}
use Rattle.notepack.specs.inner.Again.{tags_again, event_again}
use Rattle.notepack.proofs.Again.{tags_count}
use Rattle.jsontags.specs.TagText.{commaed, tag_text}
use Rattle.nson.specs.Nson.{escaped_size, counts, word, words, tag_counts, descriptors}
use Rattle.nson.specs.inner.Decision.{fits, all_fit, tags_fit}
use Rattle.nsonwrite.specs.inner.Measure.{texts_fit, texts_length}

-- ---- whether all fit

pub all_fit_more : {l m : List Text} {t : Text} → l ≡ t ∷ m → fits t ≡ true → all_fit l ≡ all_fit m
unfolding all_fit
all_fit_more e k = rw (e, k) refl

pub all_fit_stops : {l m : List Text} {t : Text} → l ≡ t ∷ m → fits t ≡ false → all_fit l ≡ false
unfolding all_fit
all_fit_stops e k = rw (e, k) refl

pub all_fit_none : {l : List Text} → l ≡ [] → all_fit l ≡ true
unfolding all_fit
all_fit_none e = rw e refl

pub tags_fit_more : {l m : List Tag} {t : Tag} → l ≡ t ∷ m → all_fit t ≡ true → tags_fit l ≡ tags_fit m
unfolding tags_fit
tags_fit_more e k = rw (e, k) refl

pub tags_fit_stops : {l m : List Tag} {t : Tag} → l ≡ t ∷ m → all_fit t ≡ false → tags_fit l ≡ false
unfolding tags_fit
tags_fit_stops e k = rw (e, k) refl

pub tags_fit_none : {l : List Tag} → l ≡ [] → tags_fit l ≡ true
unfolding tags_fit
tags_fit_none e = rw e refl

-- ---- the descriptors

-- a text whose length is n
pub words_more : {l m : List Text} {t : Text} {n : ℕ} → l ≡ t ∷ m → n ≡ escaped_size t → words (map escaped_size l) ≡ word n ++ words (map escaped_size m)
words_more e k = rw (e, k) refl

pub words_none : {l : List Text} → l ≡ [] → words (map escaped_size l) ≡ []
words_none e = rw e refl

-- a tag of n texts
pub counts_more : {l m : List Tag} {t : Tag} {n : ℕ} → l ≡ t ∷ m → length t ≡ n
    → tag_counts (map (map escaped_size) l) ≡ (n ∷ []) ++ (words (map escaped_size t) ++ tag_counts (map (map escaped_size) m))
counts_more {t = t} e k = rw (e, length-map t escaped_size, k) refl

pub counts_none : {l : List Tag} → l ≡ [] → tag_counts (map (map escaped_size) l) ≡ []
counts_none e = rw e refl

-- ---- all texts of an event

module _ (s : List ℕ) (h : Head) where
  pub texts_all_fit : fits (text_of s h.content) ≡ true → tags_fit (tags_again h.tag_count s h.tags_at) ≡ true → texts_fit (event_again s h) ≡ true
  unfolding texts_fit event_again
  texts_all_fit e f = rw (e, f) refl

  pub content_misfit : fits (text_of s h.content) ≡ false → texts_fit (event_again s h) ≡ false
  unfolding texts_fit event_again
  content_misfit e = rw e refl

  pub tags_misfit : fits (text_of s h.content) ≡ true → tags_fit (tags_again h.tag_count s h.tags_at) ≡ false → texts_fit (event_again s h) ≡ false
  unfolding texts_fit event_again
  tags_misfit e f = rw (e, f) refl

  pub texts_length_lem : {n m : ℕ} → n ≡ escaped_size (text_of s h.content) → m ≡ length (commaed (map (tag_text nson_byte) (tags_again h.tag_count s h.tags_at)))
      → n + m ≡ texts_length (event_again s h)
  unfolding texts_length event_again
  texts_length_lem e f = rw (e, f)

  -- the descriptors as they are written
  pub counts_wrote : {d d' : List ℕ} {k n r : ℕ} → k ≡ length (decimal h.kind) → n ≡ escaped_size (text_of s h.content)
      → Wrote d 0 ((k ∷ []) ++ word n ++ (h.tag_count ∷ []) ++ tag_counts (map (map escaped_size) (tags_again h.tag_count s h.tags_at))) d' r
      → Wrote d 0 (descriptors (counts (event_again s h))) d' r
  unfolding counts event_again
  counts_wrote e f w = rw (length-map (tags_again h.tag_count s h.tags_at) (map escaped_size), tags_count s h.tag_count h.tags_at, ← e, ← f) w
