-- A counted text is shown exactly where the escaped text stands in so many bytes; likewise an item between its quotes.
-- Without a fault the bytes are well quoted UTF-8, their JSON meaning is their plain text, and that escaped gives them
-- back.
use Prim.Native.Nat.{ℕ, ◌+◌}
use mathlib.Core.Path.{◌≡◌, refl, sym, ap, ◌∙◌}
use mathlib.Core.List.{List, [], ◌∷◌}
use lib.ListN.{length}
use borrow.Author.Tests.{eqb-true, eq-eqb, ne_eqb}
use Rattle.scan.specs.Choice.{shown, Read, read}
use Rattle.scan.specs.Bytes.{All}
use Rattle.scan.specs.inner.Span.{Span}
use Rattle.scan.proofs.SpanLaws.{join, cut, span_length, part_of_span, span_of_part}
use Rattle.scan.proofs.Many.{after, pick_shown, shown_same}
use Rattle.utf8.specs.Utf8.{Utf8}
use Rattle.escape.specs.Escape.{Carried, nson_byte, escaped}
use Rattle.escape.specs.inner.Back.{meaning, plain_from, plain}
use Rattle.escape.specs.inner.Quoted.{Quoted, none, bare, escape, NsonBare, nson_bare, NsonLetter, letter_n, letter_quote, letter_backslash}
use Rattle.escape.proofs.ByteLaws.{nson_escaping}
use Rattle.escape.proofs.TextLaws.{nson_plain, escaped_utf8}
use Rattle.escape.proofs.QuotedLaws.{nson_text_lem, nson_quoted}
use Rattle.escape.proofs.PlainLaws.{nson_spelled, nson_carried, plain_utf8}
use Rattle.event.specs.Event.{Text}
use Rattle.jsontext.specs.Grammar as json
use Rattle.jsontext.specs.inner.Escape.{unescape}
use Rattle.jsontext.proofs.Meaning.{unescape_none, unescape_byte, unescape_char}
use Rattle.nsonstring.specs.Counted.{fault_in}
use Rattle.nsonstring.proofs.Faults.{no_fault, faultless}
use Rattle.jsontags.specs.TagText.{quoted}
use Rattle.nson.specs.Nson.{escaped_size}
use Rattle.nson.specs.Read.{piece_at, part_at, text_at, item_at}
use Rattle.nson.proofs.Pieces.{piece_shown, piece_accepts}

-- ---- what a read says of its value

-- The bytes from `at` to the place behind the value are its spelling by f; its size is the count k; and it has Q.
pub record Spelled {N A : Type 0} (f : A → List ℕ) (size : A → N) (Q : A → Type 0) (s : List ℕ) (k : N) (at : ℕ) (v : Read A) : Type 0 where
  pub span : Span s at (f v.value) v.next
  pub sized : size v.value ≡ k
  pub holds : Q v.value

-- a text that may be read: no byte below 20 other than 0A, and well-formed UTF-8
pub record Good (t : Text) : Type 0 where
  pub carried : All Carried t
  pub utf8 : Utf8 t

-- ---- a counted text

-- between NSON's quotes the meaning of JSON and that of the three escapes are one
pub nson_meaning : {l : List ℕ} → Quoted NsonBare NsonLetter l → unescape l ≡ plain l
unfolding plain plain_from meaning
nson_meaning none = unescape_none
nson_meaning (bare {b = b} {l = l} (nson_bare h q n) r) = unescape_byte n l ∙ rw (ne_eqb b 0x5C n) (ap (λ (m : List ℕ). b ∷ m) (nson_meaning r))
nson_meaning (escape {l = l} letter_n r) = unescape_char (json.letter json.line_feed) l ∙ ap (λ (m : List ℕ). 0x0A ∷ m) (nson_meaning r)
nson_meaning (escape {l = l} letter_quote r) = unescape_char (json.letter json.quotation_mark) l ∙ ap (λ (m : List ℕ). 0x22 ∷ m) (nson_meaning r)
nson_meaning (escape {l = l} letter_backslash r) = unescape_char (json.letter json.reverse_solidus) l ∙ ap (λ (m : List ℕ). 0x5C ∷ m) (nson_meaning r)

-- bytes without a fault are their meaning, escaped
faultless_text : (l : List ℕ) → fault_in l ≡ 0 → (escaped nson_byte (unescape l) ≡ l) × Good (unescape l)
faultless_text l z =
    let g = no_fault l z in
    let m = nson_meaning g.quoted in
    rw m (nson_spelled g.quoted, record { carried = (nson_text_lem (plain l)).0 (nson_carried g.quoted); utf8 = plain_utf8 g.quoted g.utf8 })

-- a good text, escaped, has no fault, and means the text
text_faultless : {t : Text} → Good t → (fault_in (escaped nson_byte t) ≡ 0) × (unescape (escaped nson_byte t) ≡ t)
text_faultless {t} g =
    let q = nson_quoted t ((nson_text_lem t).1 g.carried) in
    (faultless q (escaped_utf8 nson_byte nson_escaping g.utf8), nson_meaning q ∙ nson_plain t)

pub text_shown : (n : ℕ) (s : List ℕ) (at p : ℕ) → text_at n s at ≡ shown p
    → Spelled (escaped nson_byte) escaped_size Good s n at (record { value = unescape (part_at n s at); next = p })
unfolding text_at escaped_size
text_shown n s at p e =
    let l = part_at n s at in
    let u = pick_shown _ _ (fault_in l) at p e in
    let v = pick_shown _ _ 13 at p u.1 in
    let c = eqb-true (length l) n v.0 in
    let f : at + n ≡ p = shown_same v.1 in
    let g = faultless_text l (eqb-true (fault_in l) 0 u.0) in
    record { span = rw (g.0, sym f) (span_of_part s at n c); sized = ap length g.0 ∙ c; holds = g.1 }

pub text_accepts : {s : List ℕ} {at c : ℕ} {t : Text} → Good t → Span s at (escaped nson_byte t) c
    → (text_at (escaped_size t) s at ≡ shown c) × (unescape (part_at (escaped_size t) s at) ≡ t)
unfolding text_at escaped_size
text_accepts {t = t} g r =
    let u = text_faultless g in
    let l = escaped nson_byte t in
    rw (part_of_span (length l) refl r) (rw (u.0, eq-eqb (length l) (length l) refl) (ap shown (sym (span_length r))), u.1)

-- ---- an item between its quotes

pub item_shown : (s : List ℕ) (n at : ℕ) (v : Read Text) → item_at s n at ≡ shown v → Spelled (quoted nson_byte) escaped_size Good s n at v
unfolding item_at quoted
item_shown s n at v e =
    after (piece_at 13 (0x22 ∷ []) s at) _ v e
    (λ a p e₁.
    after (text_at n s a) _ v e₁
    (λ b q e₂.
    after (piece_at 13 (0x22 ∷ []) s b) _ v e₂
    (λ c w e₃.
    let g : record { value = unescape (part_at n s a); next = c } ≡ v = shown_same e₃ in
    let t = text_shown n s a b q in
    let text = join (piece_shown 13 (0x22 ∷ []) s at a p) (join t.span (piece_shown 13 (0x22 ∷ []) s b c w)) in
    rw (sym g) record { span = text; sized = t.sized; holds = t.holds })))

pub item_accepts : (s : List ℕ) (t : Text) (at c : ℕ) → Good t → Span s at (quoted nson_byte t) c → item_at s (escaped_size t) at ≡ read t c
unfolding item_at quoted
item_accepts s t at c g r =
    let u = cut (0x22 ∷ []) r in
    let w = cut (escaped nson_byte t) u.2 in
    let x = text_accepts g w.1 in
    rw (piece_accepts 13 u.1, x.0, piece_accepts 13 w.2, x.1)
