-- Arrays: items are shown, one for each count, exactly where their spellings stand with commas between them.
-- One law for any item, by induction on the counts or on the items; used for the texts of a tag and for the tags.
use Prim.Native.Nat.{ℕ}
use mathlib.Core.Path.{◌≡◌, refl, sym, ap}
use mathlib.Core.Bool.{Bool, true, false}
use mathlib.Core.List.{List, [], ◌∷◌, ◌++◌, append-nil, map}
use Rattle.scan.specs.Choice.{Answer, shown, Read, read}
use Rattle.scan.specs.Bytes.{All, none, also}
use Rattle.scan.specs.inner.Span.{here, Span}
use Rattle.scan.proofs.SpanLaws.{join, cut, none_span, respell}
use Rattle.scan.proofs.Many.{after, shown_same}
use Rattle.escape.specs.Escape.{nson_byte}
use Rattle.event.specs.Event.{Tag}
use Rattle.jsontags.specs.TagText.{quoted, commaed, array, tag_text, tags_text}
use Rattle.nson.specs.Nson.{escaped_size}
use Rattle.nson.specs.Read.{piece_at, comma_at, items_at, array_at, item_at, tag_at, tags_standing}
use Rattle.nson.proofs.Pieces.{piece_shown, piece_accepts}
use Rattle.nson.proofs.Texts.{Spelled, Good, item_shown, item_accepts}

-- ---- commas: in front of each item but the first

abbrev comma : Bool → List ℕ
comma false = []
comma true = 0x2C ∷ []

abbrev separated : Bool → List (List ℕ) → List ℕ
separated later [] = []
separated later (x ∷ l) = comma later ++ (x ++ separated true l)

separated_commaed : (l : List (List ℕ)) → separated false l ≡ commaed l
separated_commaed [] = refl
separated_commaed (x ∷ []) = append-nil x
separated_commaed (x ∷ y ∷ l) = ap (λ (m : List ℕ). x ++ (0x2C ∷ m)) (separated_commaed (y ∷ l))

comma_shown : (later : Bool) (s : List ℕ) (at p : ℕ) → comma_at later s at ≡ shown p → Span s at (comma later) p
comma_shown false s at p e = let f : at ≡ p = shown_same e in rw f here
comma_shown true s at p e = piece_shown 13 (0x2C ∷ []) s at p e

comma_accepts : (later : Bool) (s : List ℕ) (at p : ℕ) → Span s at (comma later) p → comma_at later s at ≡ shown p
comma_accepts false s at p r = ap shown (none_span r)
comma_accepts true s at p r = piece_accepts 13 r

-- ---- any items

module _ {N A : Type 0} (f : A → List ℕ) (size : A → N) (Q : A → Type 0) (s : List ℕ) (item : N → ℕ → Answer (Read A)) where
  module _ (item-law : (k : N) (at : ℕ) (v : Read A) → item k at ≡ shown v → Spelled f size Q s k at v) where
    items_shown : (later : Bool) (l : List N) (at : ℕ) (v : Read (List A)) → items_at item later l s at ≡ shown v
        → Spelled (λ (xs : List A). separated later (map f xs)) (map size) (All Q) s l at v
    unfolding items_at
    items_shown later [] at v e =
        let g : record { value = []; next = at } ≡ v = shown_same e in
        rw (sym g) record { span = here; sized = refl; holds = none }
    items_shown later (k ∷ l) at v e =
        after (comma_at later s at) _ v e
        (λ a p e₁.
        after (item k a) _ v e₁
        (λ x q e₂.
        after (items_at item true l s x.next) _ v e₂
        (λ xs w e₃.
        let g : record { value = x.value ∷ xs.value; next = xs.next } ≡ v = shown_same e₃ in
        let first = item-law k a x q in
        let others = items_shown true l x.next xs w in
        let one = first.sized in
        let more = others.sized in
        let text = join (comma_shown later s at a p) (join first.span others.span) in
        rw (sym g) record { span = text; sized = (cc); holds = also first.holds others.holds })))

    pub array_shown : (l : List N) (at : ℕ) (v : Read (List A)) → array_at item l s at ≡ shown v
        → Spelled (λ (xs : List A). array (map f xs)) (map size) (All Q) s l at v
    unfolding array_at
    array_shown l at v e =
        after (piece_at 13 (0x5B ∷ []) s at) _ v e
        (λ a p e₁.
        after (items_at item false l s a) _ v e₁
        (λ xs q e₂.
        after (piece_at 13 (0x5D ∷ []) s xs.next) _ v e₂
        (λ b w e₃.
        let g : record { value = xs.value; next = b } ≡ v = shown_same e₃ in
        let all = items_shown false l a xs q in
        let inside = respell (separated_commaed (map f xs.value)) all.span in
        let text = join (piece_shown 13 (0x5B ∷ []) s at a p) (join inside (piece_shown 13 (0x5D ∷ []) s xs.next b w)) in
        rw (sym g) record { span = text; sized = all.sized; holds = all.holds })))

  module _ (item-law : (x : A) (at c : ℕ) → Q x → Span s at (f x) c → item (size x) at ≡ read x c) where
    items_accept : (later : Bool) (xs : List A) (at c : ℕ) → All Q xs → Span s at (separated later (map f xs)) c
        → items_at item later (map size xs) s at ≡ read xs c
    unfolding items_at
    items_accept later [] at c none r = ap (read []) (none_span r)
    items_accept later (x ∷ xs) at c (also q g) r =
        let u = cut (comma later) r in
        let w = cut (f x) u.2 in
        rw (comma_accepts later s at u.0 u.1, item-law x u.0 w.0 q w.1, items_accept true xs w.0 c g w.2)

    pub array_accepts : (xs : List A) (at c : ℕ) → All Q xs → Span s at (array (map f xs)) c → array_at item (map size xs) s at ≡ read xs c
    unfolding array_at
    array_accepts xs at c g r =
        let u = cut (0x5B ∷ []) r in
        let w = cut (commaed (map f xs)) u.2 in
        let inside = respell (sym (separated_commaed (map f xs))) w.1 in
        rw (piece_accepts 13 u.1, items_accept false xs u.0 w.0 g inside, piece_accepts 13 w.2)

-- ---- a tag, and the tags

pub tag_shown : (s l : List ℕ) (at : ℕ) (v : Read Tag) → tag_at s l at ≡ shown v → Spelled (tag_text nson_byte) (map escaped_size) (All Good) s l at v
unfolding tag_at tag_text
tag_shown s l at v e = array_shown (quoted nson_byte) escaped_size Good s (item_at s) (item_shown s) l at v e

pub tags_shown : (s : List ℕ) (l : List (List ℕ)) (at : ℕ) (v : Read (List Tag)) → tags_standing l s at ≡ shown v
    → Spelled (tags_text nson_byte) (map (map escaped_size)) (All (All Good)) s l at v
unfolding tags_standing tags_text
tags_shown s l at v e = array_shown (tag_text nson_byte) (map escaped_size) (All Good) s (tag_at s) (tag_shown s) l at v e

pub tag_accepts : (s : List ℕ) (t : Tag) (at c : ℕ) → All Good t → Span s at (tag_text nson_byte t) c → tag_at s (map escaped_size t) at ≡ read t c
unfolding tag_at tag_text
tag_accepts s t at c g r = array_accepts (quoted nson_byte) escaped_size Good s (item_at s) (item_accepts s) t at c g r

pub tags_accept : (s : List ℕ) (l : List Tag) (at c : ℕ) → All (All Good) l → Span s at (tags_text nson_byte l) c
    → tags_standing (map (map escaped_size) l) s at ≡ read l c
unfolding tags_standing tags_text
tags_accept s l at c g r = array_accepts (tag_text nson_byte) (map escaped_size) (All Good) s (tag_at s) (tag_accepts s) l at c g r
