-- Hex, digits and tags as they are read: each way out of the code is one law, and a tag takes little more in the strict
-- form than it does here.
-- By the definitions' tests; the bound is gathered text by text.
use Prim.Native.Nat.{ℕ, zero, suc, ◌+◌, ◌*◌, ◌-◌, ◌%◌, ◌≤◌, ◌<◌, ◌^◌}
use mathlib.Core.Path.{◌≡◌, refl, sym, ap, ◌∙◌, subst}
use mathlib.Core.Bool.{Bool, true, false}
use mathlib.Core.List.{List, [], ◌∷◌}
use native.Mathlib.Omega.{arith}
use lib.ListN.{length, take, drop, get_or, length-append, length-take, length-drop}
use lib.Dec.{eqb, leb}
use borrow.Author.Tests.{eq-eqb, ne_eqb, eqb-true, eqb-false, le-leb, lt-leb, leb-true}
use Rattle.scan.specs.Choice.{pick, shown, refused, Read, read, and_then}
use Rattle.scan.specs.Bytes.{All, none, also}
use Rattle.scan.specs.inner.Span.{Span}
use Rattle.scan.proofs.Step.{pick_by}
use Rattle.scan.proofs.SpanLaws.{span_length, span_fits, whole_span}
use Rattle.scan.proofs.Many.{then_shown}
use Rattle.scan.proofs.Reading.{Reads, reads, read_same}
use Rattle.scan.proofs.Fits.{byte_positive}
use Rattle.varint.specs.Uleb.{uleb}
use Rattle.varint.proofs.UlebLaws.{length_ten}
use Rattle.hexdigits.specs.Hex.{goes_as_bytes}
use Rattle.decimal.specs.Decimal.{number_of, is_digit}
use Rattle.decimal.specs.inner.Run.{number, over, Digits, digits_at}
use Rattle.decimal.specs.Decimal as decimal
use Rattle.decimal.proofs.Reading.{consumes_number, consumes_over, consumes_none, digit_passes}
use Rattle.event.specs.Event.{Text, Tag}
use Rattle.notepack.specs.Strict.{pack_element, pack_elements, pack_tag, pack_tags}
use Rattle.notepack.proofs.Lengths.{tag_form}
use Rattle.jsontext.specs.Token.{space_at, skip_number, past, Done}
use Rattle.jsontext.specs.Grammar as json
use Rattle.jsontext.proofs.TokenLaws.{number_consumes, space_onward}
use Rattle.jsontext.proofs.FirstByte.{begins_value, some_bytes}
use Rattle.jsonevent.specs.Field.{text_at, is_hex_of, digits_only, whole_of, whole_at, items_at, inside_at, array_at, one_or_more, tag_at, under}
use Rattle.jsonfields.specs.declared.Sized.{Sized}
use Rattle.jsonfields.specs.inner.Size.{element_size, tag_size, total, sized}
use Rattle.jsonfields.proofs.Strings.{text_bound}
use Rattle.jsonfields.proofs.Items.{Took, items_took, Bound, took_bound, never_shown, under_read, under_refused, inside_by}

-- ---- bytes in hex

pub hex_so : (n : ℕ) (t : Text) {k : ℕ} {g : Bool} → 0 < n → k ≡ length t → k ≡ 2 * n → g ≡ goes_as_bytes t → g ≡ is_hex_of n t
unfolding is_hex_of goes_as_bytes
hex_so n t {k} {g} h e f q =
    let z : (length t ≡ 0 → ⊥) = λ y. absurd (omega arith) in
    let even : length t % 2 ≡ 0 = omega arith in
    rw (eq-eqb (length t) (2 * n) (sym e ∙ f)) (q ∙ rw (ne_eqb (length t) 0 z, eq-eqb (length t % 2) 0 even))

pub hex_not : (n : ℕ) (t : Text) {k : ℕ} → k ≡ length t → (k ≡ 2 * n → ⊥) → false ≡ is_hex_of n t
unfolding is_hex_of
hex_not n t e f = rw (ne_eqb (length t) (2 * n) (λ y. f (e ∙ y)))

-- ---- digits

-- digits pass the test, and a byte that is none fails it
digits_only_lem : {l : List ℕ} → All decimal.DecimalDigit l → digits_only l ≡ true
unfolding digits_only
digits_only_lem none = refl
digits_only_lem (also {b = b} h r) = rw (digit_passes b h) (digits_only_lem r)

not_digits : (l : List ℕ) (i : ℕ) → i < length l → is_digit (get_or l i 0) ≡ false → digits_only l ≡ false
unfolding digits_only
not_digits [] i h e = absurd (omega arith)
not_digits (b ∷ l) zero h e = rw e
not_digits (b ∷ l) (suc i) h e = pick_by (λ (x : Bool). x ≡ false) (is_digit b) (λ t. not_digits l i (omega arith) e) (λ t. refl)

module _ (max refusal : ℕ) (l : List ℕ) (at next : ℕ) where
  pub whole_number : {n c : ℕ} → number n c ≡ digits_at max l 0 → c ≡ length l → read n next ≡ whole_of max refusal l at next
  unfolding whole_of
  whole_number {n} {c} e f = go (consumes_number max l 0 (sym e))
    where
      go : (d : List ℕ) × All decimal.DecimalDigit d × (0 < length d) × Span l 0 d c × (is_digit (get_or l c 0) ≡ false) × (number_of d ≡ n) × (n ≤ max)
          → read n next ≡ pick (digits_only l) (pick (leb (number_of l) max) (read (number_of l) next) (refused refusal at)) (refused 14 at)
      go g =
          let same : l ≡ g.0 = whole_span (rw f at g.3) in
          let k : number_of l ≡ n = ap number_of same ∙ g.5 in
          rw (ap digits_only same ∙ digits_only_lem g.1, k, le-leb n max g.6)

  pub whole_over : {c : ℕ} → over c ≡ digits_at max l 0 → c ≡ length l → refused refusal at ≡ whole_of max refusal l at next
  unfolding whole_of
  whole_over {c} e f = go (consumes_over max l 0 (sym e))
    where
      go : (d : List ℕ) × All decimal.DecimalDigit d × (0 < length d) × Span l 0 d c × (is_digit (get_or l c 0) ≡ false) × (max < number_of d)
          → refused refusal at ≡ pick (digits_only l) (pick (leb (number_of l) max) (read (number_of l) next) (refused refusal at)) (refused 14 at)
      go g =
          let same : l ≡ g.0 = whole_span (rw f at g.3) in
          rw (ap digits_only same ∙ digits_only_lem g.1, lt-leb (number_of l) max (omega (arith, ap number_of same, g.5)))

  whole_other : (c : ℕ) → c < length l → is_digit (get_or l c 0) ≡ false → refused 14 at ≡ whole_of max refusal l at next
  unfolding whole_of
  whole_other c h e = rw (not_digits l c h e)

  -- digits with something behind them
  pub whole_number_on : {n c : ℕ} → number n c ≡ digits_at max l 0 → (c ≡ length l → ⊥) → refused 14 at ≡ whole_of max refusal l at next
  whole_number_on {n} {c} e f = let g = consumes_number max l 0 (sym e) in whole_other c (omega (arith, f, span_length g.3, span_fits g.3)) g.4

  pub whole_over_on : {c : ℕ} → over c ≡ digits_at max l 0 → (c ≡ length l → ⊥) → refused 14 at ≡ whole_of max refusal l at next
  whole_over_on {c} e f = let g = consumes_over max l 0 (sym e) in whole_other c (omega (arith, f, span_length g.3, span_fits g.3)) g.4

  pub whole_none : Digits.none ≡ digits_at max l 0 → 0 < length l → refused 14 at ≡ whole_of max refusal l at next
  whole_none e h = whole_other 0 h (consumes_none max l 0 (sym e))

-- a number that was read takes a byte or more, and ends within the input
pub number_ends : (s : List ℕ) (a : ℕ) {e : ℕ} → skip_number s a ≡ past e → (a < e) × (e ≤ length s)
number_ends s a {e} h = go (rw h at (number_consumes s a))
  where
    go : Reads (λ (x : Done). json.Number) s a (past e) → (a < e) × (e ≤ length s)
    go (reads g r) = some_bytes (begins_value (json.is_number g)) r

-- and is at most the maximum
pub whole_most : (max refusal : ℕ) (s : List ℕ) (at : ℕ) {n e : ℕ} → whole_at max refusal s at ≡ read n e → n ≤ max
unfolding whole_at whole_of
whole_most max refusal s at {n} {e} h = let u = then_shown (skip_number s at) _ _ h in go u.0.next u.2
  where
    go : (q : ℕ) → whole_of max refusal (take (q - at) (drop at s)) at q ≡ read n e → n ≤ max
    go q i = by (digits_only l) (leb (number_of l) max) refl i
      where
        l : List ℕ
        l = take (q - at) (drop at s)

        by : (b c : Bool) → leb (number_of l) max ≡ c → pick b (pick c (read (number_of l) q) (refused refusal at)) (refused 14 at) ≡ read n e → n ≤ max
        by false c f j = never_shown j
        by true false f j = never_shown j
        by true true f j = omega (arith, leb-true (number_of l) max f, (read_same j).0)

-- the digits of a number that was read
module _ (s : List ℕ) (at : ℕ) {c : ℕ} (k : skip_number s at ≡ past c) where
  pub number_place : (at < c) × (c ≤ length s)
  number_place = number_ends s at k

  pub number_some : {l : List ℕ} → l ≡ take (c - at) (drop at s) → 0 < length l
  number_some {l} h = omega (arith, ap length h ∙ length-take (c - at) (drop at s), length-drop at s, number_place)

-- ---- tags

pub elements_total : (t : Tag) → length (pack_elements t) ≡ total element_size t
unfolding total element_size
elements_total [] = refl
elements_total (x ∷ t) = length-append (pack_element x) (pack_elements t) ∙ ap (λ (n : ℕ). length (pack_element x) + n) (elements_total t)

pub tags_total : (l : List Tag) → length (pack_tags l) ≡ total tag_size l
unfolding total tag_size
tags_total [] = refl
tags_total (x ∷ l) = length-append (pack_tag x) (pack_tags l) ∙ ap (λ (n : ℕ). length (pack_tag x) + n) (tags_total l)

pub tag_size_lem : (t : Tag) → tag_size t ≡ length (uleb (length t)) + total element_size t
unfolding tag_size
tag_size_lem t = ap length (tag_form t) ∙ length-append (uleb (length t)) (pack_elements t) ∙ ap (λ (n : ℕ). length (uleb (length t)) + n) (elements_total t)

-- a tag that was read, taken apart
pub tag_took : (s : List ℕ) (i : ℕ) {t : Tag} {e : ℕ} → tag_at s i ≡ read t e → (get_or s i 0 ≡ 0x5B) × Took (text_at s) s 254 (space_at s (i + 1)) t e
unfolding tag_at array_at inside_at one_or_more
tag_took s i {t} {e} h = let g = then_shown (array_at (text_at s) 254 s i) _ _ h in go g.0 (eqb (get_or s i 0) 0x5B) refl g.1 (eqb (length g.0.value) 0) refl g.2
  where
    inside : (v : Read Tag) (c : Bool) → eqb (get_or s (space_at s (i + 1)) 0) 0x5D ≡ c
        → pick c (read [] (space_at s (i + 1) + 1)) (items_at (text_at s) 254 s (space_at s (i + 1))) ≡ shown v → eqb (length v.value) 0 ≡ false
        → Took (text_at s) s 254 (space_at s (i + 1)) v.value v.next
    inside v true b k z = let y = read_same k in absurd (eqb-false (length v.value) 0 z (ap length (sym y.0)))
    inside v false b k z = items_took (text_at s) s 254 (space_at s (i + 1)) v k

    go : (v : Read Tag) (b : Bool) → eqb (get_or s i 0) 0x5B ≡ b
        → pick b (inside_at (text_at s) 254 s (space_at s (i + 1))) (refused 14 i) ≡ shown v → (z : Bool) → eqb (length v.value) 0 ≡ z
        → pick z (refused 9 i) (shown v) ≡ read t e → (get_or s i 0 ≡ 0x5B) × Took (text_at s) s 254 (space_at s (i + 1)) t e
    go v b q k true y m = never_shown m
    go v false q k false y m = never_shown k
    go v true q k false y m =
        let w = read_same m in
        (eqb-true (get_or s i 0) 0x5B q, rw (← w.0, ← w.1) (inside v (eqb (get_or s (space_at s (i + 1)) 0) 0x5D) refl k y))

-- a tag takes at most 2,560 bytes more in the strict form than it does here
pub tag_bound : (s : List ℕ) → length s < 2 ^ 63 → Bound (tag_at s) tag_size s 2_560
tag_bound s h a t e f =
    let g = tag_took s a f in
    let u = took_bound (text_at s) element_size s 10 (text_bound s h) g.1 in
    let k = space_onward s (a + 1) in
    (omega (arith, u, k), u.1, omega (arith, u, k, tag_size_lem t, length_ten (length t) (omega (arith, u))))

-- ---- a tag, behind its opening bracket

none_short : (s : List ℕ) → total element_size [] ≤ length s + 2_550
unfolding total
none_short s = omega arith

pub tag_not : (s : List ℕ) (at : ℕ) {b : ℕ} → b ≡ get_or s at 0 → (b ≡ 0x5B → ⊥) → refused 14 at ≡ under tag_size (tag_at s at)
unfolding tag_at array_at
tag_not s at e f = rw (ne_eqb (get_or s at 0) 0x5B (λ z. f (e ∙ z)))

module _ (s : List ℕ) (at : ℕ) {b first : ℕ} (e : b ≡ get_or s at 0) (f : b ≡ 0x5B) (g : first ≡ space_at s (at + 1)) where
  tag_open : tag_at s at ≡ and_then (inside_at (text_at s) 254 s first) (one_or_more at)
  unfolding tag_at array_at
  tag_open = rw (eq-eqb (get_or s at 0) 0x5B (sym e ∙ f)) (ap (λ (i : ℕ). and_then (inside_at (text_at s) 254 s i) (one_or_more at)) (sym g))

  pub tag_refused : {n q : ℕ} → refused n q ≡ under (sized element_size) (inside_at (text_at s) 254 s first) → refused n q ≡ under tag_size (tag_at s at)
  tag_refused h = let r = under_refused (sized element_size) (inside_at (text_at s) 254 s first) h in rw (tag_open, r)

  module _ {t : Sized} {next : ℕ} (h : read t next ≡ under (sized element_size) (inside_at (text_at s) 254 s first)) where
    texts_read : (l : Tag) × (inside_at (text_at s) 254 s first ≡ read l next) × (sized element_size l ≡ t)
    texts_read = under_read (sized element_size) (inside_at (text_at s) 254 s first) h

    pub tag_room : length s < 2 ^ 63 → t.len ≤ length s + 2_550
    tag_room small =
        subst (λ (x : Sized). x.len ≤ length s + 2_550) texts_read.2
        (inside_by (text_at s) s 254 first (λ (l : Tag). total element_size l ≤ length s + 2_550) (none_short s)
        (λ l c r. let u = took_bound (text_at s) element_size s 10 (text_bound s small) r in omega (arith, u)) texts_read.1)

    pub tag_empty : t.count ≡ 0 → refused 9 at ≡ under tag_size (tag_at s at)
    unfolding one_or_more
    tag_empty z =
        let l = texts_read.0 in
        rw (tag_open, texts_read.1, eq-eqb (length l) 0 (ap (λ (x : Sized). x.count) texts_read.2 ∙ z))

    pub tag_taken : (t.count ≡ 0 → ⊥) → {m : ℕ} → m ≡ length (uleb t.count) → read (m + t.len) next ≡ under tag_size (tag_at s at)
    unfolding one_or_more
    tag_taken z {m} i =
        let l = texts_read.0 in
        let n : length l ≡ t.count = ap (λ (x : Sized). x.count) texts_read.2 in
        let j : total element_size l ≡ t.len = ap (λ (x : Sized). x.len) texts_read.2 in
        let q : m + t.len ≡ tag_size l = rw (tag_size_lem l, n, j) (ap (λ (x : ℕ). x + t.len) i) in
        rw (tag_open, texts_read.1, ne_eqb (length l) 0 (λ y. z (sym n ∙ y))) (ap (λ (x : ℕ). read x next) q)

-- ---- tags, behind their opening bracket

-- tags that were counted and measured are few, and take little more than they do here
abbrev Room : List ℕ → ℕ → ℕ → Sized → Type 0
Room s first e t = (t.count ≤ 1000) × (t.len + first ≤ e + 2_560_000) × (e ≤ length s)

pub tags_room : (s : List ℕ) (first : ℕ) {t : Sized} {e : ℕ} → length s < 2 ^ 63 → under (sized tag_size) (inside_at (tag_at s) 999 s first) ≡ read t e → Room s first e t
unfolding inside_at total
tags_room s first {e = e} small f =
    let g = under_read (sized tag_size) (inside_at (tag_at s) 999 s first) (sym f) in
    subst (λ (x : Sized). Room s first e x) g.2 (by g.0 (eqb (get_or s first 0) 0x5D) refl g.1)
  where
    none_room : get_or s first 0 ≡ 0x5D → Room s first (first + 1) (sized tag_size [])
    none_room b = (omega arith, omega arith, omega (arith, byte_positive s first 0x5D 0x5D (sym b) refl (omega arith)))

    by : (l : List Tag) (b : Bool) → eqb (get_or s first 0) 0x5D ≡ b → pick b (read [] (first + 1)) (items_at (tag_at s) 999 s first) ≡ read l e → Room s first e (sized tag_size l)
    by l true q i =
        let y = read_same i in
        rw (← y.0, ← y.1) (none_room (eqb-true (get_or s first 0) 0x5D q))
    by l false q i =
        let u = took_bound (tag_at s) tag_size s 2_560 (tag_bound s small) (items_took (tag_at s) s 999 first (record { value = l; next = e }) i) in
        (omega (arith, u), omega (arith, u), u.1)
