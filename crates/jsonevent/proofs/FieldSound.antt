-- Soundness of each field: what is read of its value stands there by the grammar, says what was read, and keeps its
-- limit.
-- A walk over the definitions of `specs/Field`; arrays once for every kind of item.
use Prim.Native.Nat.{ℕ, zero, suc, ◌+◌, ◌*◌, ◌-◌, ◌<◌, ◌≤◌}
use mathlib.Core.Path.{◌≡◌, refl}
use mathlib.Core.Bool.{true, false}
use mathlib.Core.List.{List, [], ◌∷◌, ◌++◌, append_assoc}
use native.Mathlib.Omega.{arith}
use lib.ListN.{length, get_or, take, drop, length-append}
use lib.Dec.{leb, eqb}
use borrow.Author.Tests.{leb-true, eqb-true, eqb-false}
use Rattle.scan.specs.Choice.{pick, Answer, refused, Read, read}
use Rattle.scan.specs.Bytes.{All}
use Rattle.scan.specs.inner.Span.{here, Span}
use Rattle.scan.specs.Bytes as span
use Rattle.scan.proofs.Step.{pick_true}
use Rattle.scan.proofs.SpanLaws.{join, bite, span_length, part_of_span}
use Rattle.scan.proofs.Reading.{Reads, reads, fails, pick_reads, then_reads, from_reads}
use Rattle.utf8.specs.Utf8.{Utf8}
use Rattle.hexdigits.specs.Hex.{hexes, unhex, all_digits}
use Rattle.scan.proofs.PlaceLaws.{within_bounds}
use Rattle.hexdigits.proofs.Texts.{hexes_unhex, pass_digits, length_unhex, unhex_bytes}
use Rattle.decimal.specs.Decimal.{DecimalDigit, digit, number_of, is_digit}
use Rattle.event.specs.Event.{Text, Tag, Bytes, ValidTag}
use Rattle.jsontext.specs.declared.Spelled.{Spelled}
use Rattle.jsontext.specs.Grammar as json
use Rattle.jsontext.specs.Token.{Done, space_at}
use Rattle.jsontext.proofs.TokenLaws.{bind, space_consumes, number_consumes}
use Rattle.jsontext.proofs.TextLaws.{StringAt, string_is, string_consumes, quoted_part}
use Rattle.jsontext.proofs.FirstByte.{begins_value, some_bytes}
use Rattle.jsontext.proofs.ValueSound.{Some, some, value_consumes}
use Rattle.jsontext.proofs.Meaning.{unescape_chars, chars_utf8, chars_same}
use Rattle.jsonevent.specs.Meaning.{IsText, is_text, IsHex, is_hex, IsNumber, is_number, Each, none, also, IsArray, is_array, IsTag}
use Rattle.jsonevent.specs.Field.{text_of, text_at, is_hex_of, hex_at, digits_only, whole_of, whole_at, after_item, items_at, inside_at, array_at, one_or_more, tag_at, tags_standing, Value, missing, bytes, number, tags, text, under, field_at}
use Rattle.jsonevent.proofs.Says.{FieldSays, id_says, pubkey_says, sig_says, time_says, kind_says, tags_says, content_says, ignored_says}

-- the bytes spell a value that says x
pub data Saying {A : Type 0} (Is : json.Json → A → Type 0) (x : A) (l : List ℕ) : Type 0 where
  saying : {v : json.Json} → json.Spells v l → Is v x → Saying Is x l

-- what a value says, and that it keeps a limit
pub data Within {A : Type 0} (Is : json.Json → A → Type 0) (P : A → Type 0) (v : json.Json) (x : A) : Type 0 where
  within : Is v x → P x → Within Is P v x

-- ---- texts

-- a quoted string and the text that it stands for
pub data Quotes : Text → List ℕ → Type 0 where
  quotes : {l t q : List ℕ} → json.QuotedChars l q → json.Chars l t → Quotes t q

pub text_consumes : (s : List ℕ) (a : ℕ) → Reads Quotes s a (text_at s a)
unfolding text_at
text_consumes s a = then_reads (λ r. read (text_of s r.value) r.next) (string_consumes s a) (λ x q e g r. told g r)
  where
    told : {x : Spelled} {q : List ℕ} {e : ℕ} → StringAt a x q → Span s a q e → Reads Quotes s a (read (text_of s x) e)
    told (string_is (json.quoted c) h) r = rw (h, quoted_part (json.quoted c) r, unescape_chars c) (reads (quotes (json.quoted c) c) r)

pub text_says : (s : List ℕ) (a : ℕ) → Reads (Saying (Within IsText Utf8)) s a (text_at s a)
text_says s a = from_reads (text_consumes s a) (λ t q e g r. told g r)
  where
    told : {t : Text} {q : List ℕ} {e : ℕ} → Quotes t q → Span s a q e → Reads (Saying (Within IsText Utf8)) s a (read t e)
    told (quotes g c) r = reads (saying (json.is_string g) (within (is_text c) (chars_utf8 c))) r

-- ---- bytes in hex

hex_text : {n : ℕ} {l t : List ℕ} → json.Chars l t → is_hex_of n t ≡ true → Within IsHex (Bytes n) (json.Json.string l) (unhex t)
unfolding is_hex_of
hex_text {n} {l} {t} c h =
    let b = pick_true (eqb (length t) (2 * n)) (all_digits t) h in
    let k = eqb-true (length t) (2 * n) b.0 in
    let d : json.Chars l (hexes (unhex t)) = rw (hexes_unhex (pass_digits t b.1) (omega arith)) c in
    within (is_hex d) (record { count = omega (arith, length_unhex t); each = unhex_bytes t })

pub hex_says : (n : ℕ) (s : List ℕ) (a : ℕ) → Reads (Saying (Within IsHex (Bytes n))) s a (hex_at n s a)
unfolding hex_at
hex_says n s a = then_reads _ (text_consumes s a) (λ t q e g r. told g r)
  where
    told : {t : Text} {q : List ℕ} {e : ℕ} → Quotes t q → Span s a q e
        → Reads (Saying (Within IsHex (Bytes n))) s a (pick (is_hex_of n t) (read (unhex t) e) (refused 12 a))
    told {t} {e = e} (quotes g c) r =
        pick_reads (is_hex_of n t) (λ h. reads {e = e} (saying (json.is_string g) (hex_text {n = n} c h)) r) (λ f. fails)

-- ---- numbers

pub only_digits : (l : List ℕ) → digits_only l ≡ true → All DecimalDigit l
unfolding digits_only
only_digits [] h = span.none
only_digits (b ∷ l) h =
    let t = pick_true (is_digit b) (digits_only l) h in
    let r = within_bounds 48 57 b t.0 in
    span.also (digit r.0 r.1) (only_digits l t.1)

-- the bytes of a span, taken from the input by its two places
pub span_part : {s l : List ℕ} {a e : ℕ} → Span s a l e → take (e - a) (drop a s) ≡ l
span_part {l = l} {a = a} {e = e} r = part_of_span (e - a) (omega (arith, span_length r)) r

pub whole_says : (max refusal : ℕ) (s : List ℕ) (a : ℕ) → Reads (Saying (Within IsNumber (λ (n : ℕ). n ≤ max))) s a (whole_at max refusal s a)
unfolding whole_at whole_of
whole_says max refusal s a =
    then_reads _ (number_consumes s a)
    (λ x l e g r.
    rw (span_part r)
    (pick_reads (digits_only l)
    (λ t.
    pick_reads (leb (number_of l) max)
    (λ u. reads {e = e} (saying (json.is_number g) (within (is_number (only_digits l t)) (leb-true (number_of l) max u))) r) (λ f. fails))
    (λ f. fails)))

-- ---- arrays

-- items up to the closing bracket, at most k of them
data ItemsTo {A : Type 0} (Is : json.Json → A → Type 0) (k : ℕ) (xs : List A) : List ℕ → Type 0 where
  items_to : {i : json.Items} {m w : List ℕ} → json.SpellsItems i m → json.Ws w → Each Is i xs → length xs ≤ k → ItemsTo Is k xs (m ++ (w ++ (0x5D ∷ [])))

module _ {A : Type 0} (Is : json.Json → A → Type 0) (s : List ℕ) (item : ℕ → Answer (Read A)) (item_says : (p : ℕ) → Reads (Saying Is) s p (item p)) where
  -- one item, and the others behind its comma
  one_more : {k : ℕ} {x : A} {l c m : List ℕ} {xs : List A} {a e : ℕ} → Saying Is x l → json.Separator 0x2C c → ItemsTo Is k xs m → Span s a (l ++ (c ++ m)) e
      → Reads (ItemsTo Is (suc k)) s a (read (x ∷ xs) e)
  one_more {e = e} (saying g y) c (items_to gs h ys n) r =
      reads {e = e} (items_to (json.more_items g c gs) h (also y ys) (omega arith)) (simp append_assoc r)

  after_consumes : (k : ℕ) (more : ℕ → Answer (Read (List A))) → ((p : ℕ) → Reads (ItemsTo Is k) s (space_at s (p + 1)) (more p))
      → (x : A) (l : List ℕ) (a e : ℕ) → Saying Is x l → Span s a l e → Reads (ItemsTo Is (suc k)) s a (after_item more x s (space_at s e))
  unfolding after_item
  after_consumes k more more-reads x l a e y r =
      bind (space_consumes s e)
      (λ w h q.
      let p = space_at s e in
      pick_reads (eqb (get_or s p 0) 0x5D) (λ t. last y h (join r (join q (bite 0x5D refl t here))))
      (λ f.
      pick_reads (eqb (get_or s p 0) 0x2C)
      (λ t.
      bind (space_consumes s (p + 1))
      (λ w₂ h₂ q₂.
      then_reads (λ (xs : Read (List A)). read (x ∷ xs.value) xs.next) (more-reads p)
      (λ xs m e₂ ys r₂. one_more y (json.separator h h₂) ys (join r (join (join q (bite 0x2C refl t q₂)) r₂)))))
      (λ n. fails)))
    where
      last : {w : List ℕ} {e : ℕ} → Saying Is x l → json.Ws w → Span s a (l ++ (w ++ (0x5D ∷ []))) e → Reads (ItemsTo Is (suc k)) s a (read (x ∷ []) e)
      last (saying g y) h r = reads (items_to (json.last_item g) h (also y none) (omega arith)) r

  items_consume : (left a : ℕ) → Reads (ItemsTo Is (suc left)) s a (items_at item left s a)
  unfolding items_at
  items_consume zero a =
      then_reads (λ x. after_item (λ p. refused 8 p) x.value s (space_at s x.next)) (item_says a)
      (λ x l e y r. after_consumes 0 (λ p. refused 8 p) (λ p. fails) x l a e y r)
  items_consume (suc left) a =
      then_reads (λ x. after_item (λ p. items_at item left s (space_at s (p + 1))) x.value s (space_at s x.next)) (item_says a)
      (λ x l e y r. after_consumes (suc left) (λ p. items_at item left s (space_at s (p + 1))) (λ p. items_consume left (space_at s (p + 1))) x l a e y r)

  pub array_says : (left a : ℕ) → Reads (Saying (Within (IsArray Is) (λ (xs : List A). length xs ≤ suc left))) s a (array_at item left s a)
  unfolding array_at inside_at
  array_says left a =
      pick_reads (eqb (get_or s a 0) 0x5B)
      (λ t.
      bind (space_consumes s (a + 1))
      (λ w h q.
      let p = space_at s (a + 1) in
      pick_reads (eqb (get_or s p 0) 0x5D)
      (λ u. reads {x = []} {e = p + 1} (saying (json.empty_array h) (within (is_array none) (omega arith))) (bite 0x5B refl t (join q (bite 0x5D refl u here))))
      (λ f. from_reads (items_consume left p) (λ xs m e ys r. closed h ys (bite 0x5B refl t (join q r))))))
      (λ f. fails)
    where
      closed : {xs : List A} {w m : List ℕ} {e : ℕ} → json.Ws w → ItemsTo Is (suc left) xs m → Span s a (0x5B ∷ (w ++ m)) e
          → Reads (Saying (Within (IsArray Is) (λ (xs : List A). length xs ≤ suc left))) s a (read xs e)
      closed h (items_to gs h₂ ys n) r = reads (saying (json.is_array h gs h₂) (within (is_array ys) n)) r

-- what each item says, and the limits that they keep
each_apart : {A : Type 0} {Is : json.Json → A → Type 0} {P : A → Type 0} {i : json.Items} {l : List A} → Each (Within Is P) i l → Each Is i l × All P l
each_apart none = (none, span.none)
each_apart (also (within y p) r) = let u = each_apart r in (also y u.0, span.also p u.1)

array_apart : {A : Type 0} {Is : json.Json → A → Type 0} {P : A → Type 0} {v : json.Json} {l : List A} → IsArray (Within Is P) v l → IsArray Is v l × All P l
array_apart (is_array y) = let u = each_apart y in (is_array u.0, u.1)

pub tag_says : (s : List ℕ) (a : ℕ) → Reads (Saying (Within IsTag ValidTag)) s a (tag_at s a)
unfolding tag_at one_or_more
tag_says s a = then_reads (one_or_more a) (array_says (Within IsText Utf8) s (text_at s) (text_says s) _ a) (λ t l e y r. told y r)
  where
    told : {t : Tag} {l : List ℕ} {e : ℕ} → Saying (Within (IsArray (Within IsText Utf8)) (λ (xs : Tag). length xs ≤ 255)) t l → Span s a l e
        → Reads (Saying (Within IsTag ValidTag)) s a (one_or_more a (record { value = t; next = e }))
    told {t = t} {e = e} (saying g (within y n)) r =
        let u = array_apart y in
        pick_reads (eqb (length t) 0) (λ z. fails)
        (λ f.
        let k = eqb-false (length t) 0 f in
        reads {e = e} (saying g (within u.0 (record { one = omega (arith, k); few = n; texts = u.1 }))) r)

pub tags_say : (s : List ℕ) (a : ℕ) → Reads (Saying (Within (IsArray (Within IsTag ValidTag)) (λ (l : List Tag). length l ≤ 1_000))) s a (tags_standing s a)
unfolding tags_standing
tags_say s a = array_says (Within IsTag ValidTag) s (tag_at s) (tag_says s) _ a

-- ---- the seven fields

under_reads : {A B : Type 0} {Is : json.Json → A → Type 0} {Js : json.Json → B → Type 0} {s : List ℕ} {a : ℕ} {r : Answer (Read A)} (f : A → B)
    → ((v : json.Json) (x : A) → Is v x → Js v (f x)) → Reads (Saying Is) s a r → Reads (Saying Js) s a (under f r)
under_reads f k (reads {x = x} (saying {v = v} g y) r) = reads (saying g (k v x y)) r
under_reads f k fails = fails

apart : {A R : Type 0} {Is : json.Json → A → Type 0} {P : A → Type 0} {v : json.Json} {x : A} → (Is v x → P x → R) → Within Is P v x → R
apart f (within y p) = f y p

-- THE soundness of a field: what is read of it is said by the value that stands there
pub field_says : (k : ℕ) (s : List ℕ) (a : ℕ) → Reads (Saying (FieldSays k)) s a (field_at k s a)
unfolding field_at
field_says k s a =
    pick_reads (eqb k 0) (λ t. rw (eqb-true k 0 t) (under_reads bytes (λ v b. apart id_says) (hex_says _ s a)))
    (λ n₀.
    pick_reads (eqb k 1) (λ t. rw (eqb-true k 1 t) (under_reads bytes (λ v b. apart pubkey_says) (hex_says _ s a)))
    (λ n₁.
    pick_reads (eqb k 2) (λ t. rw (eqb-true k 2 t) (under_reads bytes (λ v b. apart sig_says) (hex_says _ s a)))
    (λ n₂.
    pick_reads (eqb k 3) (λ t. rw (eqb-true k 3 t) (under_reads number (λ v n. apart time_says) (whole_says _ _ s a)))
    (λ n₃.
    pick_reads (eqb k 4) (λ t. rw (eqb-true k 4 t) (under_reads number (λ v n. apart kind_says) (whole_says _ _ s a)))
    (λ n₄.
    pick_reads (eqb k 5)
    (λ t. rw (eqb-true k 5 t) (under_reads tags (λ v l. apart (λ y n. let u = array_apart y in tags_says u.0 n u.1)) (tags_say s a)))
    (λ n₅.
    pick_reads (eqb k 6) (λ t. rw (eqb-true k 6 t) (under_reads text (λ v x. apart content_says) (text_says s a)))
    (λ n₆. then_reads (λ x. read missing x.next) (value_consumes _ s a) (λ x l e y r. beyond (seven n₀ n₁ n₂ n₃ n₄ n₅ n₆) y r))))))))
  where
    seven : eqb k 0 ≡ false → eqb k 1 ≡ false → eqb k 2 ≡ false → eqb k 3 ≡ false → eqb k 4 ≡ false → eqb k 5 ≡ false → eqb k 6 ≡ false → 7 ≤ k
    seven n₀ n₁ n₂ n₃ n₄ n₅ n₆ =
        let h : 4 ≤ k = omega (arith, eqb-false k 0 n₀, eqb-false k 1 n₁, eqb-false k 2 n₂, eqb-false k 3 n₃) in
        omega (arith, eqb-false k 4 n₄, eqb-false k 5 n₅, eqb-false k 6 n₆)

    beyond : {x : Done} {l : List ℕ} {e : ℕ} → 7 ≤ k → Some 16 x l → Span s a l e → Reads (Saying (FieldSays k)) s a (read missing e)
    beyond h (some g n) r = reads (saying g (ignored_says h n)) r

-- ---- what is read takes a byte or more, and ends within the input

pub says_bytes : {A : Type 0} {Is : json.Json → A → Type 0} {s : List ℕ} {a e : ℕ} {x : A} → Reads (Saying Is) s a (read x e) → (a < e) × (e ≤ length s)
says_bytes (reads (saying g y) r) = some_bytes (begins_value g) r

pub text_some : (s : List ℕ) (a : ℕ) {e : ℕ} {t : Text} → text_at s a ≡ read t e → (a < e) × (e ≤ length s)
text_some s a f = says_bytes (rw f at (text_says s a))

-- a text is at most as long as the bytes between its quotes
pub text_shorter : (s : List ℕ) (a : ℕ) {e : ℕ} {t : Text} → text_at s a ≡ read t e → a + length t + 2 ≤ e
text_shorter s a f = go (rw f at (text_consumes s a))
  where
    go : {e : ℕ} {t : Text} → Reads Quotes s a (read t e) → a + length t + 2 ≤ e
    go (reads (quotes (json.quoted {l = l} d) c) r) = omega (arith, span_length r, length-append l (0x22 ∷ []), (chars_same c).0)

pub tag_some : (s : List ℕ) (a : ℕ) {e : ℕ} {t : Tag} → tag_at s a ≡ read t e → (a < e) × (e ≤ length s)
tag_some s a f = says_bytes (rw f at (tag_says s a))

pub field_some : (k : ℕ) (s : List ℕ) (a : ℕ) {e : ℕ} {x : Value} → field_at k s a ≡ read x e → (a < e) × (e ≤ length s)
field_some k s a f = says_bytes (rw f at (field_says k s a))
