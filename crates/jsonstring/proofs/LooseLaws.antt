-- Bare bytes and escapes that are UTF-8 are passed in a string: `loose_text`, THE law of the fast way.
-- Character after character: an escape is whole characters of ASCII, and a character of several bytes is bare bytes
-- above ASCII.
use Prim.Native.Nat.{ℕ, zero, suc, ◌+◌, ◌-◌, ◌<◌, ◌≤◌, ◌^◌}
use mathlib.Core.Path.{◌≡◌, refl, sym, ap, ◌∙◌}
use mathlib.Core.Bool.{Bool, true}
use mathlib.Core.List.{List, [], ◌∷◌, ◌++◌}
use mathlib.Core.Logic.{dite}
use native.Mathlib.Omega.{arith}
use native.Mathlib.Decide.{ℕ_discrete}
use lib.ListN.{length, get_or, take, drop, length-append}
use lib.Seq.{take_at}
use borrow.Author.Tests.{ne_eqb}
use mir.Syntax.{w64}
use mir.Val.{Fits}
use Rattle.scan.specs.Choice.{read}
use Rattle.scan.specs.Bytes.{All, none, also}
use Rattle.scan.specs.inner.Span.{here, step, Span}
use Rattle.scan.proofs.SpanLaws.{join, cut, open_span, none_span, close_span, span_length, span_fits, span_unique, from_span}
use Rattle.utf8.specs.Utf8 as utf8
use Rattle.utf8.specs.inner.Width.{is_utf8}
use Rattle.utf8.proofs.WidthLaws.{width_accepts}
use Rattle.utf8.proofs.Laws.{is_utf8_lem, utf8_rest, utf8_char, utf8_append, utf8_ascii}
use Rattle.jsontext.specs.declared.Escape.{Escape}
use Rattle.jsontext.specs.Grammar as json
use Rattle.jsontext.specs.inner.Escape.{unescaped_letter, letter_escape, escape_at}
use Rattle.jsontext.specs.Text.{string_at}
use Rattle.jsonstring.specs.inner.Loose.{LooseTo, nothing, bare, escape}
use Rattle.scan.proofs.Fits.{byte_place}
use Rattle.jsonstring.proofs.Turn.{InText, text_start, text_quote, text_ascii, text_char, text_escape}
use Rattle.jsontext.proofs.EscapeLaws.{EscapeAt, escape_is, no_escape_lem, escape_at_lem, letter_small, width_fits}
use Rattle.jsontext.proofs.TextLaws.{high_bytes, first_of, Kind, narrow, wide, kind}
use Rattle.jsontext.proofs.Meaning.{unescaped_char}

-- ---- one stretch behind another

pub then : {s : List ℕ} {a i e : ℕ} → LooseTo s a i → LooseTo s i e → LooseTo s a e
then nothing q = q
then (bare h l n m p) q = bare h l n m (then p q)
then (escape h f z p) q = escape h f z (then p q)

-- a bare byte more
pub then_bare : {s : List ℕ} {a i : ℕ} → LooseTo s a i → i < length s → (get_or s i 0 ≡ 0x22 → ⊥) → 0x20 ≤ get_or s i 0 → (get_or s i 0 ≡ 0x5C → ⊥) → LooseTo s a (i + 1)
then_bare p h n l m = then p (bare h l n m nothing)

-- an escape more
pub then_escape : {s : List ℕ} {a i : ℕ} {x : Escape} → LooseTo s a i → i < length s → get_or s i 0 ≡ 0x5C → x ≡ escape_at s i → (x.width ≡ 0 → ⊥) → LooseTo s a (i + x.width)
then_escape {s} {a} {i} {x} p h f e z =
    let w : x.width ≡ (escape_at s i).width = ap (λ (y : Escape). y.width) e in
    rw w (then p (escape h f (λ k. z (w ∙ k)) nothing))

-- the escape of a letter more
module _ (s : List ℕ) (i b c : ℕ) (f : c ≡ get_or s (i + 1) 0) (g : b ≡ unescaped_letter c) (n : 0 < b) where
  letter_width : (escape_at s i).width ≡ 2
  unfolding escape_at letter_escape unescaped_letter
  letter_width =
      dite (ℕ_discrete c 0x75) (λ e. absurd (omega (arith, n, rw e at g)))
      (λ m. rw (← f, ne_eqb c 0x75 m, ← g, ne_eqb b 0 (λ z. omega (arith, n, z))) refl)

  pub letter_fits : i < length s → length s < 2 ^ 64 → get_or s i 0 ≡ 0x5C → Fits w64 (i + 2)
  letter_fits h l q = rw letter_width at (width_fits s i l h q refl)

  pub then_letter : {a : ℕ} → LooseTo s a i → i < length s → get_or s i 0 ≡ 0x5C → LooseTo s a (i + 2)
  then_letter p h q = rw letter_width at (then_escape p h q refl (λ z. omega (arith, letter_width, z)))

-- ---- the bytes of a stretch

-- the bytes of an escape
escape_span : (s : List ℕ) (a : ℕ) → get_or s a 0 ≡ 0x5C → ((escape_at s a).width ≡ 0 → ⊥)
    → (l : List ℕ) × (t : List ℕ) × json.SpelledChar l t × Span s a l (a + (escape_at s a).width)
escape_span s a f z = go (escape_at_lem s a f) z
  where
    go : {x : Escape} → EscapeAt s a x → (x.width ≡ 0 → ⊥) → (l : List ℕ) × (t : List ℕ) × json.SpelledChar l t × Span s a l (a + x.width)
    go no_escape_lem n = absurd (n refl)
    go (escape_is {l = l} {n = u} g k r i j m o) n = (l, _, g, r)

-- the bytes from its start to its end
loose_span : {s : List ℕ} {a e : ℕ} → LooseTo s a e → (l : List ℕ) × Span s a l e
loose_span nothing = ([], here)
loose_span {s} {a} (bare h l n m p) = let r = loose_span p in (get_or s a 0 ∷ r.0, step h refl r.1)
loose_span {s} {a} (escape h f z p) =
    let r = loose_span p in
    let x = escape_span s a f z in
    (x.0 ++ r.0, join x.3 r.1)

pub loose_onward : {s : List ℕ} {a e : ℕ} → LooseTo s a e → a ≤ e
loose_onward p = omega (arith, span_length (loose_span p).1)

pub loose_inside : {s : List ℕ} {a e : ℕ} → a ≤ length s → LooseTo s a e → e ≤ length s
loose_inside h p = let r = (loose_span p).1 in omega (arith, h, span_length r, span_fits r)

-- ---- a character as it is spelled is UTF-8

digit_ascii : {b x : ℕ} → json.HexDigit b x → b < 0x80
digit_ascii (json.HexDigit.number l h) = omega arith
digit_ascii (json.HexDigit.capital l h) = omega arith
digit_ascii (json.HexDigit.small l h) = omega arith

unit_utf8 : {l : List ℕ} {u : ℕ} → json.Unit l u → utf8.Utf8 l
unit_utf8 (json.unit p q r t) =
    utf8_ascii
    (also {b = 0x5C} (omega arith)
    (also {b = 0x75} (omega arith) (also (digit_ascii p) (also (digit_ascii q) (also (digit_ascii r) (also (digit_ascii t) none))))))

spelled_utf8 : {c t : List ℕ} → json.SpelledChar c t → utf8.Utf8 c
spelled_utf8 (json.unescaped g) = utf8_char (unescaped_char g)
spelled_utf8 (json.letter {c = c} g) = let h = letter_small g in utf8_ascii (also {b = 0x5C} (omega arith) (also {b = c} (omega arith) none))
spelled_utf8 (json.unicode g n) = unit_utf8 g
spelled_utf8 (json.pair p h q k) = utf8_append (unit_utf8 p) (unit_utf8 q)

-- ---- THE law

-- bytes above ASCII are bare
pass_high : {s c : List ℕ} {a j e : ℕ} → All (λ (x : ℕ). 0x80 ≤ x) c → Span s a c j → j ≤ e → LooseTo s a e → LooseTo s j e
pass_high none here o p = p
pass_high (also h r) (step k f q) o nothing = absurd (omega (arith, span_length q))
pass_high (also h r) (step k f q) o (bare i l n m p) = pass_high r q o p
pass_high (also h r) (step k f q) o (escape i g z p) = absurd (omega arith)

-- what the induction gives for a text of at most n bytes
abbrev Reaches : ℕ → List ℕ → ℕ → ℕ → Type 0
Reaches n s start e = (l : List ℕ) (a : ℕ) → length l ≤ n → LooseTo s a e → utf8.Utf8 l → Span s a l e → InText s start a → InText s start e

module _ (n : ℕ) (s : List ℕ) (start e : ℕ) (k : Reaches n s start e) (a : ℕ) (v : InText s start a) (h : a < length s) where
  -- a bare byte: it is a character of ASCII, or begins one of several bytes
  module _ (o : 0x20 ≤ get_or s a 0) (q : get_or s a 0 ≡ 0x22 → ⊥) (m : get_or s a 0 ≡ 0x5C → ⊥) (p : LooseTo s (a + 1) e) where
    by_kind : {c l : List ℕ} (j : ℕ) → length (c ++ l) ≤ suc n → Kind c → utf8.Utf8 l → Span s a c j → Span s j l e → InText s start e
    by_kind {l = l} j i (narrow {a = x} g) u r t =
        let z = close_span r in
        let f : j ≡ a + 1 = z.1 in
        k l (a + 1) (omega arith) p u (rw f at t) (text_ascii s start a v h q o m (omega (arith, z.0)))
    by_kind {c = c} {l = l} j i (wide {a = x} {b = y} {l = d} g) u r t =
        let f : a + length c ≡ j = sym (span_length r) in
        let b = high_bytes g in
        let x = first_of b in
        let w : InText s start (a + length c) = text_char s start a v h q o m (omega (arith, (open_span r).1)) (sym (width_accepts g r)) (λ z. omega arith) in
        k l j (omega (arith, length-append d l)) (pass_high b r (omega (arith, span_length t)) (bare h o q m p)) u t (rw f at w)

    by_char : {l : List ℕ} → length l ≤ suc n → utf8.Utf8 l → Span s a l e → InText s start e
    by_char i utf8.Utf8.none r = rw (none_span r) at v
    by_char i (utf8.char {c = c} g u) r = let x = cut c r in by_kind x.0 i (kind g) u x.1 x.2

  -- an escape: its bytes are whole characters
  by_escape : {l : List ℕ} → length l ≤ suc n → get_or s a 0 ≡ 0x5C → ((escape_at s a).width ≡ 0 → ⊥) → LooseTo s (a + (escape_at s a).width) e → utf8.Utf8 l → Span s a l e
      → InText s start e
  by_escape {l} i f z p u r =
      let x = escape_span s a f z in
      let y = loose_span p in
      let c : l ≡ x.0 ++ y.0 = span_unique r (join x.3 y.1) in
      let d : utf8.Utf8 (x.0 ++ y.0) = rw c at u in
      let b : length l ≡ length x.0 + length y.0 = rw c (length-append x.0 y.0) in
      let g = span_length x.3 in
      k y.0 (a + (escape_at s a).width) (omega (arith, b, g, z, i)) p (utf8_rest (spelled_utf8 x.2) d) y.1
      (text_escape s start a v h (λ b. omega arith) (omega arith) f refl z)

loose_from : (n : ℕ) (s : List ℕ) (start e : ℕ) → Reaches n s start e
loose_from zero s start e l a h p u r v = let q : a ≡ e = omega (arith, span_length r) in rw q at v
loose_from (suc n) s start e l a h nothing u r v = v
loose_from (suc n) s start e l a h (bare i o q m p) u r v = by_char n s start e (loose_from n s start e) a v i o q m p h u r
loose_from (suc n) s start e l a h (escape i f z p) u r v = by_escape n s start e (loose_from n s start e) a v i h f z p u r

-- the bytes of a stretch are the part of the input
part_span : {s : List ℕ} {a e : ℕ} {l : List ℕ} → Span s a l e → take (e - a) (drop a s) ≡ l
part_span {s} {a} {e} {l} r =
    let k : e - a ≡ length l = omega (arith, span_length r) in
    rw (k, from_span r) (take_at l (drop e s) (length l) refl)

-- bare bytes and escapes that are UTF-8 are passed in a string
pub loose_text : {s : List ℕ} {start a e : ℕ} → LooseTo s a e → is_utf8 (take (e - a) (drop a s)) ≡ true → InText s start a → InText s start e
loose_text {s} {start} {a} {e} p u v =
    let r = loose_span p in
    let w : is_utf8 r.0 ≡ true = rw (part_span r.1) at u in
    loose_from (length r.0) s start e r.0 a (omega arith) p ((is_utf8_lem r.0).0 w) r.1 v

-- the fast way: from the opening quote to a quote with nothing but bare bytes and escapes between them, which are UTF-8
pub string_loose : (s : List ℕ) (start e : ℕ) {b c : ℕ} {l : List ℕ} {t : Bool} → b ≡ get_or s start 0 → b ≡ 0x22 → LooseTo s (start + 1) e → c ≡ get_or s e 0 → c ≡ 0x22
    → l ≡ take (e - (start + 1)) (drop (start + 1) s) → t ≡ is_utf8 l → t ≡ true
    → read (record { from = start + 1; count = e - (start + 1) }) (e + 1) ≡ string_at s start
string_loose s start e {b} {c} f g p h k q u t =
    let v = loose_text p (sym (ap is_utf8 q) ∙ sym u ∙ t) (text_start s start b f g) in
    text_quote s start e v (byte_place s e c 0x22 h k refl) (sym h ∙ k)
