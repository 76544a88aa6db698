-- What the field can hold and what the text allows is together what a carried and valid event's tags are; and the
-- length of the descriptors.
-- By induction on the tags and their texts.
use Prim.Native.Nat.{ℕ, ◌+◌, ◌*◌, ◌≤◌}
use mathlib.Core.Path.{◌≡◌, refl}
use mathlib.Core.List.{List, [], ◌∷◌, map}
use native.Mathlib.Omega.{arith}
use lib.ListN.{length, length-append, length-map}
use Rattle.scan.specs.Bytes.{All, none, also}
use Rattle.scan.proofs.AllLaws.{all_map}
use Rattle.utf8.specs.Utf8.{Utf8}
use Rattle.decimal.proofs.Spelling.{length_some, length_u16}
use Rattle.event.specs.Event.{Text, Tag, Event, ValidTag, Valid}
use Rattle.nson.specs.Nson.{escaped_size, counts, words, tag_counts, descriptors}
use Rattle.nson.specs.Carries.{tag_bytes, Fits, Carries}
use Rattle.nson.proofs.Texts.{Good}
use Rattle.nson.proofs.Counts.{Short, TagCounts, Holds}

-- ---- the length of the descriptors

length_words : (l : List ℕ) → length (words l) ≡ 2 * length l
length_words [] = refl
length_words (n ∷ l) = omega (arith, length_words l)

length_tags : (l : List Tag) → length (tag_counts (map (map escaped_size) l)) ≡ tag_bytes l
unfolding tag_bytes
length_tags [] = refl
length_tags (t ∷ l) =
    let m = map escaped_size t in
    omega (arith, length-append (words m) (tag_counts (map (map escaped_size) l)), length_words m, length-map t escaped_size, length_tags l)

-- 4, and for each tag 1 and 2 for each item
pub descriptors_length : (e : Event) → length (descriptors (counts e)) ≡ 4 + tag_bytes e.tags
unfolding counts
descriptors_length e = omega (arith, length_tags e.tags)

-- ---- texts and tags

fit_texts : {t : List Text} → All Good t → All Short (map escaped_size t) → All Fits t
fit_texts none none = none
fit_texts (also g p) (also h q) = also (record { plain = g.carried; short = h }) (fit_texts p q)

short_texts : {t : List Text} → All Fits t → All Short (map escaped_size t)
short_texts none = none
short_texts (also g p) = also g.short (short_texts p)

good_texts : {t : List Text} → All Fits t → All Utf8 t → All Good t
good_texts none none = none
good_texts (also g p) (also u q) = also (record { carried = g.plain; utf8 = u }) (good_texts p q)

-- tags whose texts are good and whose counts the field can hold are carried and valid
pub tags_carried : {l : List Tag} → All (All Good) l → All TagCounts (map (map escaped_size) l) → All (All Fits) l × All ValidTag l
tags_carried none none = (none, none)
tags_carried (also {b = t} g p) (also c q) =
    let r = tags_carried p q in
    let n = length-map t escaped_size in
    let one = c.one in
    let few = c.few in
    let valid : ValidTag t = record { one = omega arith; few = omega arith; texts = all_map (λ x y. y.utf8) g } in
    (also (fit_texts g c.each) r.0, also valid r.1)

-- and back
pub carried_tags : {l : List Tag} → All (All Fits) l → All ValidTag l → All (All Good) l × All TagCounts (map (map escaped_size) l)
carried_tags none none = (none, none)
carried_tags (also {b = t} f p) (also v q) =
    let r = carried_tags p q in
    let n = length-map t escaped_size in
    let one = v.one in
    let few = v.few in
    let held : TagCounts (map escaped_size t) = record { one = omega arith; few = omega arith; each = short_texts f } in
    (also (good_texts f v.texts) r.0, also held r.1)

-- ---- the counts of a carried and valid event

tags_few : (l : List Tag) → length l ≤ tag_bytes l
unfolding tag_bytes
tags_few [] = omega arith
tags_few (t ∷ l) = omega (arith, tags_few l)

pub carried_holds : {e : Event} → Carries e → Valid e → Holds (counts e)
unfolding counts
carried_holds {e} c v =
    let few = c.few in
    let fit = c.content in
    record {
      one = omega (arith, length_some e.kind);
      five = length_u16 e.kind v.kind16;
      content = fit.short;
      few = omega (arith, tags_few e.tags, length-map e.tags (map escaped_size));
      each = (carried_tags c.texts v.each).1;
    }
