-- The strict form of the event of a JSON text is no longer than the text: a reader that is lent as many bytes as the
-- text has never lacks room.
-- Piece by piece: a text is no longer than its spelling, an element than its string with a comma, a field than its
-- member; then over the members.
use Prim.Native.Nat.{ℕ, zero, suc, ◌+◌, ◌*◌, ◌-◌, ◌^◌, ◌<◌, ◌≤◌}
use mathlib.Core.Path.{◌≡◌, refl, ap, subst}
use mathlib.Core.Bool.{Bool, true, false}
use mathlib.Core.List.{List, [], ◌∷◌, ◌++◌}
use native.Mathlib.Omega.{arith}
use native.Mathlib.Nat.{pow-succ'}
use lib.ListN.{length, set, length-append}
use Rattle.scan.specs.Choice.{pick, shown}
use Rattle.scan.specs.Bytes.{All}
use Rattle.scan.specs.Bytes as span
use Rattle.varint.specs.Uleb.{uleb}
use Rattle.varint.proofs.UlebLaws.{length_uleb}
use Rattle.hexdigits.specs.Hex.{unhex, goes_as_bytes}
use Rattle.hexdigits.proofs.Texts.{length_unhex, length_hexes}
use Rattle.decimal.specs.Decimal.{DecimalDigit, digit, behind, number_of}
use Rattle.event.specs.Event.{Text, Tag, Event, ValidTag}
use Rattle.jsontext.specs.Grammar as json
use Rattle.jsontext.proofs.Meaning.{chars_same}
use Rattle.notepack.specs.Strict.{pack_element, pack_elements, pack_tag, pack_tags, pack}
use Rattle.jsonevent.specs.Meaning.{IsText, is_text, IsHex, is_hex, IsNumber, is_number, Each, IsArray, is_array, IsTag, IsEvent}
use Rattle.jsonevent.specs.Field.{Value, missing, bytes, number, tags, text, Fields, field}
use Rattle.jsonevent.specs.Object.{read_json}
use Rattle.jsonevent.specs.inner.Closing.{is_missing}
use Rattle.jsonevent.proofs.Says.{FieldSays, id_says, pubkey_says, sig_says, time_says, kind_says, tags_says, content_says, ignored_says, fields_of}
use Rattle.jsonevent.proofs.Tracks.{Tracks, tracks_none, then, event_tracks, no_event}
use Rattle.jsonevent.proofs.Whole.{sound}
use Rattle.agreement.specs.Demand3.{TextEnough}
use Rattle.agreement.proofs.Agree.{both_accept}

-- ---- a string

-- it has two quotes around it
quoted_shorter : {l q : List ℕ} → json.QuotedChars l q → length q ≡ length l + 2
quoted_shorter (json.quoted {l = l} g) = omega (arith, length-append l (0x22 ∷ []))

-- ---- a number is no longer than its digits

digits_below : (k n : ℕ) {l : List ℕ} → All DecimalDigit l → n < 128 ^ k → behind n l < 128 ^ (k + length l)
digits_below k n span.none h = subst (λ (j : ℕ). n < 128 ^ j) (omega arith) h
digits_below k n (span.also {b = b} {l = l} (digit p q) g) h =
    let m : n * 10 + (b - 48) < 128 ^ suc k = omega (arith, h, p, q, pow-succ' 128 k) in
    let r = digits_below (suc k) (n * 10 + (b - 48)) g m in
    let e : suc k + length l ≡ k + suc (length l) = omega arith in
    rw e at r

number_shorter : {b : ℕ} {l : List ℕ} → All DecimalDigit (b ∷ l) → length (uleb (number_of (b ∷ l))) ≤ suc (length l)
number_shorter {b} {l} g =
    let e : 0 + length (b ∷ l) ≡ suc (length l) = omega arith in
    length_uleb (length l) (number_of (b ∷ l)) (subst (λ (j : ℕ). number_of (b ∷ l) < 128 ^ j) e (digits_below 0 0 g (omega arith)))

-- ---- an item with the comma or the bracket behind it

-- the sum over a list
abbrev total : {A : Type 0} → (A → ℕ) → List A → ℕ
total w [] = 0
total w (x ∷ l) = w x + total w l

module _ {A : Type 0} (most : ℕ) (Is : json.Json → A → Type 0) (w : A → ℕ)
    (item : (v : json.Json) (x : A) (l : List ℕ) → Is v x → json.Spells v l → length l ≤ most → w x ≤ length l + 1) where
  items_shorter : {i : json.Items} {xs : List A} {l : List ℕ} → Each Is i xs → json.SpellsItems i l → length l ≤ most → total w xs ≤ length l + 1
  items_shorter {l = l} Each.none h n = elim h [ ]
  items_shorter (Each.also {v = v} {x = x} g Each.none) (json.last_item {l = l} h) n = omega (arith, item v x l g h n)
  items_shorter (Each.also {v = v} {x = y} g gs) (json.more_items {l = l} {r = r} h (json.separator {w = u} {x = x} p q) hs) n =
      let a = length-append l ((u ++ (0x2C ∷ x)) ++ r) in
      let b = length-append (u ++ (0x2C ∷ x)) r in
      let c = length-append u (0x2C ∷ x) in
      omega (arith, item v y l g h (omega (arith, a, n)), items_shorter gs hs (omega (arith, a, b, n)), a, b, c)

  -- an array has two brackets
  array_shorter : {v : json.Json} {xs : List A} {l : List ℕ} → IsArray Is v xs → json.Spells v l → length l ≤ most → total w xs + 1 ≤ length l
  array_shorter (is_array Each.none) (json.empty_array {w = u} p) n = omega (arith, length-append u (0x5D ∷ []))
  array_shorter (is_array g) (json.is_array {w = u} {l = l} {x = x} p h q) n =
      let a = length-append u (l ++ (x ++ (0x5D ∷ []))) in
      let b = length-append l (x ++ (0x5D ∷ [])) in
      let c = length-append x (0x5D ∷ []) in
      omega (arith, items_shorter g h (omega (arith, a, b, n)), a, b, c)

-- ---- elements and tags

-- a text as an element: three bytes for its length are enough, and hex takes half
element_shorter : (t : Text) → length t ≤ 65_536 → length (pack_element t) ≤ length t + 3
unfolding pack_element
element_shorter t h = go (goes_as_bytes t)
  where
    go : (b : Bool) → length (pick b (uleb (2 * length (unhex t) + 1) ++ unhex t) (uleb (2 * length t) ++ t)) ≤ length t + 3
    go true =
        let n = length (unhex t) in
        let e = length_unhex t in
        omega (arith, e, length-append (uleb (2 * n + 1)) (unhex t), length_uleb 2 (2 * n + 1) (omega (arith, e)))
    go false = omega (arith, length-append (uleb (2 * length t)) t, length_uleb 2 (2 * length t) (omega arith))

-- every text of a list is short
data Short : List Text → Type 0 where
  none : Short []
  also : {t : Text} {l : List Text} → length t ≤ 65_536 → Short l → Short (t ∷ l)

elements_shorter : (ts : Tag) → Short ts → length (pack_elements ts) ≤ total (λ (t : Text). length t + 3) ts
elements_shorter [] none = omega arith
elements_shorter (t ∷ ts) (also h k) = omega (arith, element_shorter t h, elements_shorter ts k, length-append (pack_element t) (pack_elements ts))

total_short : (ts : Tag) (n : ℕ) → total (λ (t : Text). length t + 3) ts ≤ n → n ≤ 65_536 → Short ts
total_short [] n h k = none
total_short (t ∷ ts) n h k = also {t = t} (omega arith) (total_short ts n (omega arith) k)

text_item : {v : json.Json} {t : Text} {l : List ℕ} → IsText v t → json.Spells v l → length t + 3 ≤ length l + 1
text_item (is_text g) (json.is_string q) = omega (arith, (chars_same g).0, quoted_shorter q)

-- a tag of at most 255 texts
data Tagged (v : json.Json) (t : Tag) : Type 0 where
  tagged : IsTag v t → length t ≤ 255 → Tagged v t

tag_item : (v : json.Json) (t : Tag) (l : List ℕ) → Tagged v t → json.Spells v l → length l ≤ 65_536 → length (pack_tag t) ≤ length l + 1
unfolding pack_tag
tag_item v t l (tagged g few) h k =
    let a = array_shorter 65_536 IsText (λ (x : Text). length x + 3) (λ w x m p q n. text_item p q) g h k in
    let b = elements_shorter t (total_short t 65_536 (omega (arith, a, k)) (omega arith)) in
    omega (arith, a, b, length-append (uleb (length t)) (pack_elements t), length_uleb 1 (length t) (omega (arith, few)))

each_tagged : {i : json.Items} {l : List Tag} → Each IsTag i l → All ValidTag l → Each Tagged i l
each_tagged Each.none span.none = Each.none
each_tagged (Each.also g gs) (span.also v vs) = Each.also (tagged g v.few) (each_tagged gs vs)

tags_length : (l : List Tag) → length (pack_tags l) ≡ total (λ (t : Tag). length (pack_tag t)) l
tags_length [] = refl
tags_length (t ∷ l) = omega (arith, tags_length l, length-append (pack_tag t) (pack_tags l))

-- ---- a field

-- what it takes in the strict form
abbrev taken : Value → ℕ
taken missing = 0
taken (bytes l) = length l
taken (number n) = length (uleb n)
taken (tags l) = length (uleb (length l)) + length (pack_tags l)
taken (text t) = length (uleb (length t)) + length t

hex_item : {v : json.Json} {b l : List ℕ} → IsHex v b → json.Spells v l → length b ≤ length l + 1
hex_item {b = b} (is_hex g) (json.is_string q) = omega (arith, (chars_same g).0, quoted_shorter q, length_hexes b)

number_item : {v : json.Json} {n : ℕ} {l : List ℕ} → IsNumber v n → json.Spells v l → length (uleb n) ≤ length l + 1
number_item (is_number {l = []} g) (json.is_number h) = omega (arith, length_uleb 0 0 (omega arith))
number_item (is_number {l = b ∷ l} g) (json.is_number h) = omega (arith, number_shorter g)

tags_item : {v : json.Json} {ts : List Tag} {l : List ℕ} → IsArray IsTag v ts → length ts ≤ 1_000 → All ValidTag ts → json.Spells v l → length l ≤ 65_536
    → length (uleb (length ts)) + length (pack_tags ts) ≤ length l + 1
tags_item {ts = ts} (is_array g) few valid h n =
    let a = array_shorter 65_536 Tagged (λ (t : Tag). length (pack_tag t)) tag_item (is_array (each_tagged g valid)) h n in
    omega (arith, a, tags_length ts, length_uleb 1 (length ts) (omega (arith, few)))

content_item : {v : json.Json} {t : Text} {l : List ℕ} → IsText v t → json.Spells v l → length l ≤ 65_536 → length (uleb (length t)) + length t ≤ length l + 1
content_item {t = t} (is_text g) (json.is_string q) n =
    let a = (chars_same g).0 in
    let b = quoted_shorter q in
    omega (arith, a, b, length_uleb 2 (length t) (omega (arith, a, b, n)))

field_item : {k : ℕ} {v : json.Json} {x : Value} {l : List ℕ} → FieldSays k v x → json.Spells v l → length l ≤ 65_536 → taken x ≤ length l + 1
field_item (id_says g b) h n = hex_item g h
field_item (pubkey_says g b) h n = hex_item g h
field_item (sig_says g b) h n = hex_item g h
field_item (time_says g b) h n = number_item g h
field_item (kind_says g b) h n = number_item g h
field_item (tags_says g b c) h n = tags_item g b c h n
field_item (content_says g b) h n = content_item g h n
field_item (ignored_says k b) h n = omega arith

-- with its name and colon it takes no more than its member
member_item : {k : ℕ} {m : List ℕ} {v : json.Json} {x : Value} {l : List ℕ} → FieldSays k v x → json.SpellsMember m v l → length l ≤ 65_536 → taken x ≤ length l
member_item g (json.is_member {q = q} {l = l} p (json.separator {w = w} {x = x} y z) h) n =
    let a = length-append q ((w ++ (0x3A ∷ x)) ++ l) in
    let b = length-append (w ++ (0x3A ∷ x)) l in
    let c = length-append w (0x3A ∷ x) in
    omega (arith, field_item g h (omega (arith, a, b, n)), quoted_shorter p, a, b, c)

-- ---- the members

-- a field that was missing, and is found
found_item : (f : Fields) (k : ℕ) (x : Value) → is_missing (field f k) ≡ true → total taken (set f k x) ≤ total taken f + taken x
found_item [] k x h = omega arith
found_item (y ∷ f) zero x h = omega arith
found_item (y ∷ f) (suc k) x h = omega (arith, found_item f k x h)

members_shorter : {m : json.Members} {l : List ℕ} {f g : Fields} → json.SpellsMembers m l → Tracks f m g → length l ≤ 65_536
    → total taken g ≤ total taken f + length l
members_shorter {f = f} (json.last_member h) (then {x = x} c i y t) n = omega (arith, member_item y h n, found_item f _ x i, ap (total taken) (tracks_none t))
members_shorter {f = f} (json.more_members {l = l} {r = r} h (json.separator {w = w} {x = z} p q) hs) (then {x = x} d i y t) n =
    let a = length-append l ((w ++ (0x2C ∷ z)) ++ r) in
    let b = length-append (w ++ (0x2C ∷ z)) r in
    omega (arith, member_item y h (omega (arith, a, n)), found_item f _ x i, members_shorter hs t (omega (arith, a, b, n)), a, b)

-- ---- the whole

pack_taken : (e : Event) → length (pack e) ≡ total taken (fields_of e)
unfolding pack
pack_taken e = simp length-append (omega arith)

object_shorter : {v : json.Json} {l : List ℕ} {e : Event} → json.Spells v l → IsEvent v e → length l ≤ 65_536 → length (pack e) ≤ length l
object_shorter json.is_false i n = elim i [ ]
object_shorter json.is_null i n = elim i [ ]
object_shorter json.is_true i n = elim i [ ]
object_shorter (json.empty_object p) i n = absurd (no_event i)
object_shorter (json.empty_array p) i n = elim i [ ]
object_shorter (json.is_array p h q) i n = elim i [ ]
object_shorter (json.is_number h) i n = elim i [ ]
object_shorter (json.is_string h) i n = elim i [ ]
object_shorter {e = e} (json.is_object {w = w} {l = l} {x = x} p h q) i n =
    let a = length-append w (l ++ (x ++ (0x7D ∷ []))) in
    let b = length-append l (x ++ (0x7D ∷ [])) in
    omega (arith, pack_taken e, members_shorter h (event_tracks i) (omega (arith, a, b, n)), a, b)

-- the strict form is no longer than the text
shorter : (s : List ℕ) (e : Event) → read_json s ≡ shown e → length (pack e) ≤ length s
shorter s e r = let u = sound r in go u.text u.event u.short
  where
    go : {v : json.Json} {s : List ℕ} → json.JsonText v s → IsEvent v e → length s ≤ 65_536 → length (pack e) ≤ length s
    go (json.text {w = w} {l = l} {x = x} p h q) i n = let a = length-append w (l ++ x) in let b = length-append l x in omega (arith, object_shorter h i (omega (arith, a, b, n)), a, b)

-- THE room: nor where the NSON reader shows it, since then the plain JSON reader does
pub text_enough : TextEnough
text_enough s e = ((λ r. shorter s e r), (λ r. shorter s e (both_accept s e r)))
