-- The refusals of the plain JSON reader, each with its number and its place as rules 10 and 11 have them.
-- By the steps of the definitions, behind what the grammar says was read before.
use Prim.Native.Nat.{ℕ, zero, suc, ◌+◌, ◌<◌, ◌≤◌}
use mathlib.Core.Path.{◌≡◌, refl, sym, ap, ◌∙◌}
use mathlib.Core.Bool.{true, false}
use mathlib.Core.List.{List, [], ◌∷◌, ◌++◌}
use native.Mathlib.Omega.{arith}
use lib.ListN.{length, get_or}
use borrow.Author.Tests.{le-leb, lt-leb, ne_eqb}
use Rattle.scan.specs.Choice.{Answer, refused, Read, read}
use Rattle.scan.specs.Bytes.{All}
use Rattle.scan.specs.inner.Span.{step, Span}
use Rattle.scan.proofs.Step.{false_true}
use Rattle.scan.proofs.SpanLaws.{cut, span_length, span_fits}
use Rattle.utf8.specs.inner.Width.{width_at}
use Rattle.decimal.specs.Decimal.{DecimalDigit, number_of}
use Rattle.event.specs.Event.{Tag, Event, ValidTag}
use Rattle.jsontext.specs.Grammar as json
use Rattle.jsontext.specs.Token.{is_space, space_at}
use Rattle.jsontext.proofs.TokenLaws.{Stop, space_accepts, number_accepts}
use Rattle.jsontext.proofs.TextLaws.{string_ill_formed}
use Rattle.jsontext.proofs.FirstByte.{first_at, begins_value, begins_items, begins_members}
use Rattle.jsontext.proofs.ValueComplete.{not_space, separator_accepts, comma_solid, brace_solid}
use Rattle.jsonevent.specs.Meaning.{IsText, Each, none, also, is_array, IsTag, IsEvent}
use Rattle.jsonevent.specs.Field.{text_at, is_hex_of, hex_at, digits_only, whole_of, whole_at, after_item, items_at, inside_at, array_at, one_or_more, tag_at, tags_standing, field_of, field_at, Fields, field}
use Rattle.jsonevent.specs.Object.{no_fields, member_at, object_at, read_json}
use Rattle.jsonevent.specs.inner.Closing.{is_missing, close_at}
use Rattle.jsonevent.specs.Object as object
use Rattle.jsonevent.proofs.Says.{holds}
use Rattle.jsonevent.proofs.Tracks.{Tracks, some_field}
use Rattle.jsonevent.proofs.Closing.{Closes, closes, lacks, close_told}
use Rattle.jsonevent.proofs.FieldSound.{Within, span_part}
use Rattle.jsonevent.proofs.FieldComplete.{quoted_accepts, text_accepts, digits_only_lem, each_some, array_accepts, tag_accepts}
use Rattle.jsonevent.proofs.ObjectComplete.{members_accept, object_accepts}

-- 1 at 0: over 65,536 bytes
pub too_long : (s : List ℕ) → 65_536 < length s → read_json s ≡ refused 1 0
unfolding read_json
too_long s h = rw (lt-leb (length s) 65_536 h)

-- ---- texts and numbers

-- 5 at the first byte between the quotes: ill-formed UTF-8, behind characters that are read
pub text_ill_formed : {s l t : List ℕ} {a i : ℕ} → json.Chars l t → Span s a (0x22 ∷ l) i → 0x80 ≤ get_or s i 0 → width_at s i ≡ 0 → text_at s a ≡ refused 5 (a + 1)
unfolding text_at
text_ill_formed g r h w = rw (string_ill_formed g r h w)

-- 12 at the opening quote: a string that is no lowercase hex of its length
pub not_hex : (n : ℕ) {s l t q : List ℕ} {a c : ℕ} → json.QuotedChars l q → json.Chars l t → Span s a q c → is_hex_of n t ≡ false → hex_at n s a ≡ refused 12 a
unfolding hex_at
not_hex n g t r f = rw (quoted_accepts g t r, f)

-- at the number: one above the maximum
number_over : (max refusal : ℕ) {s l : List ℕ} {a c : ℕ} → json.Number l → All DecimalDigit l → max < number_of l → Span s a l c → Stop (get_or s c 0)
    → whole_at max refusal s a ≡ refused refusal a
unfolding whole_at whole_of
number_over max refusal {l = l} g y h r st = rw (number_accepts g r st, span_part r, digits_only_lem y, lt-leb (number_of l) max h)

-- 6: a kind above 65,535
pub kind_over : {s l : List ℕ} {a c : ℕ} → json.Number l → All DecimalDigit l → 65_535 < number_of l → Span s a l c → Stop (get_or s c 0) → field_at 4 s a ≡ refused 6 a
unfolding field_at
kind_over g y h r st = rw (number_over 65_535 6 g y h r st)

-- 7: a created_at above its maximum
pub time_over : {s l : List ℕ} {a c : ℕ} → json.Number l → All DecimalDigit l → 9_223_372_036_854_775 < number_of l → Span s a l c → Stop (get_or s c 0)
    → field_at 3 s a ≡ refused 7 a
unfolding field_at
time_over g y h r st = rw (number_over 9_223_372_036_854_775 7 g y h r st)

-- 14 at the number: a sign, a fraction or an exponent
pub number_not_digits : (max refusal : ℕ) {s l : List ℕ} {a c : ℕ} → json.Number l → digits_only l ≡ false → Span s a l c → Stop (get_or s c 0)
    → whole_at max refusal s a ≡ refused 14 a
unfolding whole_at whole_of
number_not_digits max refusal g f r st = rw (number_accepts g r st, span_part r, f)

-- ---- arrays

module _ {A : Type 0} (item : ℕ → Answer (Read A)) (s : List ℕ) where
  item_over : (a b c : ℕ) (x : A) → item a ≡ read x b → space_at s b ≡ c → get_or s c 0 ≡ 0x2C → items_at item 0 s a ≡ refused 8 c
  unfolding items_at after_item
  item_over a b c x e f g = rw (e, f, g)

  item_again : (left a b c d n p : ℕ) (x : A) → item a ≡ read x b → space_at s b ≡ c → get_or s c 0 ≡ 0x2C → space_at s (c + 1) ≡ d
      → items_at item left s d ≡ refused n p → items_at item (suc left) s a ≡ refused n p
  unfolding items_at after_item
  item_again left a b c d n p x i f g h r = rw (i, f, g, h, r)

module _ {A : Type 0} (Is : json.Json → A → Type 0) (s : List ℕ) (item : ℕ → Answer (Read A))
    (item_accepts : (v : json.Json) (x : A) (l : List ℕ) (a c : ℕ) → Is v x → json.Spells v l → Span s a l c → item a ≡ read x c) where
  items_over : {i : json.Items} {xs : List A} {l : List ℕ} {a b c : ℕ} (left : ℕ) → json.SpellsItems i l → Each Is i xs → length xs ≡ suc left → Span s a l b
      → space_at s b ≡ c → get_or s c 0 ≡ 0x2C → items_at item left s a ≡ refused 8 c
  items_over {a = a} {b = b} {c = c} zero (json.last_item {v = v} {l = l} g) (also {x = x} y none) n r e f =
      item_over item s a b c x (item_accepts v x l a b y g r) e f
  items_over zero (json.more_items g k gs) (also y ys) n r e f = absurd (omega (arith, n, each_some gs ys))
  items_over (suc left) (json.last_item g) (also y none) n r e f = absurd (omega arith)
  items_over {a = a} {b = b} {c = c} (suc left) (json.more_items {v = v} {l = l} {c = m} {i = i} {r = r'} g k gs) (also {x = x} {l = xs} y ys) n r e f =
      let u = cut l r in
      let w = cut m u.2 in
      let z = separator_accepts 0x2C comma_solid k w.1 (first_at (begins_items gs) w.2).solid in
      item_again item s left a u.0 z.0 w.0 8 c x (item_accepts v x l a u.0 y g u.1) z.1 z.2 z.3
      (items_over {i = i} left gs ys (omega (arith, n)) w.2 e f)

  -- 8 at the comma behind the last item that is allowed
  pub array_over : {i : json.Items} {xs : List A} {w l : List ℕ} {a b c : ℕ} (left : ℕ) → json.Ws w → json.SpellsItems i l → Each Is i xs → length xs ≡ suc left
      → Span s a (0x5B ∷ (w ++ l)) b → space_at s b ≡ c → get_or s c 0 ≡ 0x2C → array_at item left s a ≡ refused 8 c
  unfolding array_at inside_at
  array_over {w = w} left g gs ys n (step p q r) e f =
      let u = cut w r in
      let h = first_at (begins_items gs) u.2 in
      rw (q, space_accepts g u.1 h.solid, h.no_bracket) (items_over left gs ys n u.2 e f)

-- of a tag's 255 texts
pub texts_over : {i : json.Items} {t : Tag} {s w l : List ℕ} {a b c : ℕ} → json.Ws w → json.SpellsItems i l → Each IsText i t → length t ≡ 255
    → Span s a (0x5B ∷ (w ++ l)) b → space_at s b ≡ c → get_or s c 0 ≡ 0x2C → tag_at s a ≡ refused 8 c
unfolding tag_at
texts_over {s = s} g gs ys n r e f = rw (array_over IsText s (text_at s) (λ v x l a c. text_accepts) 254 g gs ys n r e f)

-- of 1,000 tags
pub tags_over : {i : json.Items} {ts : List Tag} {s w l : List ℕ} {a b c : ℕ} → json.Ws w → json.SpellsItems i l → Each (Within IsTag ValidTag) i ts
    → length ts ≡ 1_000 → Span s a (0x5B ∷ (w ++ l)) b → space_at s b ≡ c → get_or s c 0 ≡ 0x2C → tags_standing s a ≡ refused 8 c
unfolding tags_standing
tags_over {s = s} g gs ys n r e f = array_over (Within IsTag ValidTag) s (tag_at s) (λ v x l a c. tag_accepts) 999 g gs ys n r e f

-- 9 at the opening bracket: a tag without a text
pub tag_empty : {s w : List ℕ} {a c : ℕ} → json.Ws w → Span s a (0x5B ∷ (w ++ (0x5D ∷ []))) c → tag_at s a ≡ refused 9 a
unfolding tag_at one_or_more
tag_empty {s = s} g r =
    rw (array_accepts IsText s (text_at s) (λ v x l a c. text_accepts) 254 (is_array none) (omega arith) (json.empty_array g) r)

-- ---- the object

-- 16 at the second name
pub name_twice : (f : Fields) {s n t q : List ℕ} {a c : ℕ} → json.QuotedChars n q → json.Chars n t → Span s a q c → is_missing (field f (field_of t)) ≡ false
    → member_at f s a ≡ refused 16 a
unfolding member_at
name_twice f g t r i = rw (quoted_accepts g t r, i)

close_lacks : (g : Fields) (p : ℕ) {k : ℕ} → k < 7 → is_missing (field g k) ≡ true → close_at g p ≡ refused 15 p
close_lacks g p {k} h e = go (close_told g p)
  where
    go : {r : Answer (Read Event)} → Closes g p r → r ≡ refused 15 p
    go (closes {e = d} (holds q)) = absurd (false_true (sym (some_field d k h) ∙ ap is_missing (sym (q k h)) ∙ e))
    go lacks = refl

-- 15 at the closing brace: a field that none of the members has
pub field_missing : {m : json.Members} {g : Fields} {s w l x : List ℕ} {a b p k : ℕ} → json.Ws w → json.SpellsMembers m l → Tracks no_fields m g → k < 7
    → is_missing (field g k) ≡ true → Span s a (0x7B ∷ (w ++ l)) b → Stop (get_or s b 0) → json.Ws x → Span s b x p → get_or s p 0 ≡ 0x7D → object_at s a ≡ refused 15 p
unfolding object_at object.inside_at
field_missing {g = g} {w = w} {p = p} y gs t h e (step z q r) st k v o =
    let u = cut w r in
    let f = first_at (begins_members gs) u.2 in
    rw (q, space_accepts y u.1 f.solid, f.no_brace)
    (members_accept _ gs t (close_lacks g p h e) u.2 st (space_accepts k v (not_space 0x7D o brace_solid)) o
    (omega (arith, z, span_length u.1, span_fits u.2)))

-- and in an object without members
pub all_missing : {s w : List ℕ} {a p : ℕ} → json.Ws w → Span s a (0x7B ∷ w) p → get_or s p 0 ≡ 0x7D → object_at s a ≡ refused 15 p
unfolding object_at object.inside_at
all_missing g (step z q r) o = rw (q, space_accepts g r (not_space 0x7D o brace_solid), o)

-- 10 at the first byte behind the object and its white space
pub something_behind : {v : json.Json} {e : Event} {s w l x : List ℕ} {a b p : ℕ} → json.Ws w → json.Spells v l → IsEvent v e → json.Ws x → length s ≤ 65_536
    → Span s 0 w a → Span s a l b → Span s b x p → is_space (get_or s p 0) ≡ false → p < length s → read_json s ≡ refused 10 p
unfolding read_json object.whole_at
something_behind {s = s} {p = p} g h y k n r q z o i =
    rw (
      le-leb (length s) 65_536 n,
      space_accepts g r (first_at (begins_value h) q).solid,
      object_accepts h y q,
      space_accepts k z o,
      ne_eqb p (length s) (λ d. omega arith),
    )
