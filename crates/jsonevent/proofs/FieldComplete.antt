-- Completeness of each field: a value of the grammar that says x of a field, within its limit, is read as x, to its
-- end.
-- Each definition of `specs/Field` is rewritten by the *accepts* of its tokens; arrays once for every kind of item.
use Prim.Native.Nat.{ℕ, zero, suc, ◌+◌, ◌*◌, ◌≤◌}
use mathlib.Core.Path.{◌≡◌, refl, sym, ap, ◌∙◌}
use mathlib.Core.Bool.{true}
use mathlib.Core.List.{List, [], ◌∷◌}
use native.Mathlib.Omega.{arith}
use lib.ListN.{length, get_or}
use borrow.Author.Tests.{le-leb, eq-eqb, ne_eqb}
use Rattle.scan.specs.Choice.{Answer, Read, read}
use Rattle.scan.specs.Place as place
use Rattle.scan.specs.Bytes.{All}
use Rattle.scan.specs.inner.Span.{step, Span}
use Rattle.scan.specs.Bytes as span
use Rattle.scan.proofs.SpanLaws.{cut, close_span}
use Rattle.hexdigits.specs.Hex.{hexes}
use Rattle.hexdigits.proofs.Texts.{length_hexes, hexes_digits, unhex_hexes, digits_pass}
use Rattle.decimal.specs.Decimal.{DecimalDigit, digit, number_of}
use Rattle.event.specs.Event.{Text, Tag, Bytes, ValidTag}
use Rattle.jsontext.specs.Grammar as json
use Rattle.jsontext.specs.Token.{space_at}
use Rattle.jsontext.proofs.TokenLaws.{Stop, space_accepts, number_accepts}
use Rattle.jsontext.proofs.TextLaws.{string_accepts, quoted_part}
use Rattle.jsontext.proofs.FirstByte.{first_at, begins_items}
use Rattle.jsontext.proofs.ValueComplete.{value_accepts, separator_accepts, not_space, comma_solid, bracket_solid}
use Rattle.jsontext.proofs.Meaning.{unescape_chars}
use Rattle.jsonevent.specs.Meaning.{IsText, is_text, IsHex, is_hex, IsNumber, is_number, Each, none, also, IsArray, is_array, IsTag}
use Rattle.jsonevent.specs.Field.{text_at, is_hex_of, hex_at, digits_only, whole_of, whole_at, after_item, items_at, inside_at, array_at, one_or_more, tag_at, tags_standing, Value, field_at}
use Rattle.jsonevent.proofs.Says.{FieldSays, id_says, pubkey_says, sig_says, time_says, kind_says, tags_says, content_says, ignored_says}
use Rattle.jsonevent.proofs.FieldSound.{Within, within, span_part}

-- ---- texts

-- a string of the grammar is read as its text
pub quoted_accepts : {s l t q : List ℕ} {a c : ℕ} → json.QuotedChars l q → json.Chars l t → Span s a q c → text_at s a ≡ read t c
unfolding text_at
quoted_accepts g t r = rw (string_accepts g r, quoted_part g r, unescape_chars t)

pub text_accepts : {v : json.Json} {t : Text} {s l : List ℕ} {a c : ℕ} → IsText v t → json.Spells v l → Span s a l c → text_at s a ≡ read t c
text_accepts (is_text t) (json.is_string g) r = quoted_accepts g t r

-- ---- bytes in hex

is_hex_of_lem : {n : ℕ} {b : List ℕ} → Bytes n b → is_hex_of n (hexes b) ≡ true
unfolding is_hex_of
is_hex_of_lem {n} {b} p = rw (eq-eqb (length (hexes b)) (2 * n) (length_hexes b ∙ ap (λ (k : ℕ). 2 * k) p.count)) (digits_pass (hexes_digits p.each))

pub hex_accepts : {n : ℕ} {v : json.Json} {b : List ℕ} {s l : List ℕ} {a c : ℕ} → Bytes n b → IsHex v b → json.Spells v l → Span s a l c → hex_at n s a ≡ read b c
unfolding hex_at
hex_accepts {n} {c = c} p (is_hex t) (json.is_string g) r = rw (quoted_accepts g t r, is_hex_of_lem p, unhex_hexes p.each)

-- ---- numbers

pub digits_only_lem : {l : List ℕ} → All DecimalDigit l → digits_only l ≡ true
unfolding digits_only place.within
digits_only_lem span.none = refl
digits_only_lem (span.also {b = b} (digit l h) r) = rw (le-leb 48 b l, le-leb b 57 h) (digits_only_lem r)

pub whole_accepts : (max refusal : ℕ) {n : ℕ} {v : json.Json} {s l : List ℕ} {a c : ℕ} → n ≤ max → IsNumber v n → json.Spells v l → Span s a l c → Stop (get_or s c 0)
    → whole_at max refusal s a ≡ read n c
unfolding whole_at whole_of
whole_accepts max refusal h (is_number {l = l} y) (json.is_number g) r st = rw (number_accepts g r st, span_part r, digits_only_lem y, le-leb (number_of l) max h)

-- ---- arrays

module _ {A : Type 0} (item : ℕ → Answer (Read A)) (s : List ℕ) where
  item_last : (left a b c : ℕ) (x : A) → item a ≡ read x b → space_at s b ≡ c → get_or s c 0 ≡ 0x5D → items_at item left s a ≡ read (x ∷ []) (c + 1)
  unfolding items_at after_item
  item_last zero a b c x e f g = rw (e, f, g)
  item_last (suc left) a b c x e f g = rw (e, f, g)

  item_more : (left a b c d e : ℕ) (x : A) (xs : List A) → item a ≡ read x b → space_at s b ≡ c → get_or s c 0 ≡ 0x2C → space_at s (c + 1) ≡ d
      → items_at item left s d ≡ read xs e → items_at item (suc left) s a ≡ read (x ∷ xs) e
  unfolding items_at after_item
  item_more left a b c d e x xs i f g h r = rw (i, f, g, h, r)

-- an array that has an item says something
pub each_some : {A : Type 0} {Is : json.Json → A → Type 0} {i : json.Items} {xs : List A} {l : List ℕ} → json.SpellsItems i l → Each Is i xs → 1 ≤ length xs
each_some (json.last_item g) (also y r) = omega arith
each_some (json.more_items g c gs) (also y r) = omega arith

module _ {A : Type 0} (Is : json.Json → A → Type 0) (s : List ℕ) (item : ℕ → Answer (Read A))
    (item_accepts : (v : json.Json) (x : A) (l : List ℕ) (a c : ℕ) → Is v x → json.Spells v l → Span s a l c → item a ≡ read x c) where
  items_accept : {i : json.Items} {xs : List A} {l : List ℕ} {a b c : ℕ} (left : ℕ) → json.SpellsItems i l → Each Is i xs → length xs ≤ suc left → Span s a l b
      → space_at s b ≡ c → get_or s c 0 ≡ 0x5D → items_at item left s a ≡ read xs (c + 1)
  items_accept {a = a} {b = b} {c = c} left (json.last_item {v = v} {l = l} g) (also {x = x} y none) n r e f =
      item_last item s left a b c x (item_accepts v x l a b y g r) e f
  items_accept zero (json.more_items g k gs) (also y ys) n r e f = absurd (omega (arith, each_some gs ys))
  items_accept {a = a} {c = c} (suc left) (json.more_items {v = v} {l = l} {c = m} g k gs) (also {x = x} {l = xs} y ys) n r e f =
      let u = cut l r in
      let w = cut m u.2 in
      let z = separator_accepts 0x2C comma_solid k w.1 (first_at (begins_items gs) w.2).solid in
      item_more item s left a u.0 z.0 w.0 (c + 1) x xs (item_accepts v x l a u.0 y g u.1) z.1 z.2 z.3
      (items_accept left gs ys (omega arith) w.2 e f)

  pub array_accepts : {v : json.Json} {xs : List A} {l : List ℕ} {a c : ℕ} (left : ℕ) → IsArray Is v xs → length xs ≤ suc left → json.Spells v l → Span s a l c
      → array_at item left s a ≡ read xs c
  unfolding array_at inside_at
  array_accepts left (is_array none) n (json.empty_array {w = w} g) (step p q r) =
      let u = cut w r in
      let z = close_span u.2 in
      rw (q, space_accepts g u.1 (not_space 0x5D z.0 bracket_solid), z.0) (ap (read []) (sym z.1))
  array_accepts left (is_array ys) n (json.is_array {w = w} {l = l} {x = x} g gs k) (step p q r) =
      let u = cut w r in
      let v = cut l u.2 in
      let y = cut x v.2 in
      let z = close_span y.2 in
      let f = first_at (begins_items gs) v.1 in
      rw (q, space_accepts g u.1 f.solid, f.no_bracket)
      (items_accept left gs ys n v.1 (space_accepts k y.1 (not_space 0x5D z.0 bracket_solid)) z.0 ∙ ap (read _) (sym z.1))

each_join : {A : Type 0} {Is : json.Json → A → Type 0} {P : A → Type 0} {i : json.Items} {l : List A} → Each Is i l → All P l → Each (Within Is P) i l
each_join none span.none = none
each_join (also y r) (span.also p q) = also (within y p) (each_join r q)

array_join : {A : Type 0} {Is : json.Json → A → Type 0} {P : A → Type 0} {v : json.Json} {l : List A} → IsArray Is v l → All P l → IsArray (Within Is P) v l
array_join (is_array y) p = is_array (each_join y p)

pub tag_accepts : {v : json.Json} {t : Tag} {s l : List ℕ} {a c : ℕ} → Within IsTag ValidTag v t → json.Spells v l → Span s a l c → tag_at s a ≡ read t c
unfolding tag_at one_or_more
tag_accepts {t = t} {s = s} (within y p) g r =
    let h = p.one in
    rw (array_accepts IsText s (text_at s) (λ v x l a c. text_accepts) 254 y p.few g r, ne_eqb (length t) 0 (λ e. omega arith))

pub tags_accept : {v : json.Json} {ts : List Tag} {s l : List ℕ} {a c : ℕ} → IsArray IsTag v ts → length ts ≤ 1_000 → All ValidTag ts → json.Spells v l → Span s a l c
    → tags_standing s a ≡ read ts c
unfolding tags_standing
tags_accept {s = s} y n p g r = array_accepts (Within IsTag ValidTag) s (tag_at s) (λ v x l a c. tag_accepts) 999 (array_join y p) n g r

-- ---- the seven fields

-- THE completeness of a field: what its value says is read, if nothing follows that could lengthen a number
pub field_accepts : {k : ℕ} {v : json.Json} {x : Value} {s l : List ℕ} {a c : ℕ} → FieldSays k v x → json.Spells v l → Span s a l c → Stop (get_or s c 0)
    → field_at k s a ≡ read x c
unfolding field_at
field_accepts (id_says y p) g r st = rw (hex_accepts p y g r)
field_accepts (pubkey_says y p) g r st = rw (hex_accepts p y g r)
field_accepts (sig_says y p) g r st = rw (hex_accepts p y g r)
field_accepts (time_says y p) g r st = rw (whole_accepts 9_223_372_036_854_775 7 p y g r st)
field_accepts (kind_says y p) g r st = rw (whole_accepts 65_535 6 p y g r st)
field_accepts (tags_says y n p) g r st = rw (tags_accept y n p g r)
field_accepts (content_says y p) g r st = rw (text_accepts y g r)
field_accepts (ignored_says {k = k} h n) g r st =
    rw (
      ne_eqb k 0 (λ e. omega arith),
      ne_eqb k 1 (λ e. omega arith),
      ne_eqb k 2 (λ e. omega arith),
      ne_eqb k 3 (λ e. omega arith),
      ne_eqb k 4 (λ e. omega arith),
      ne_eqb k 5 (λ e. omega arith),
      ne_eqb k 6 (λ e. omega arith),
      value_accepts 16 g n r (λ k e. st),
    )
