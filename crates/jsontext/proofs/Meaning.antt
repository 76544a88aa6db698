-- What `unescape` gives: for a string of the grammar the bytes that its characters stand for; for a string without a
-- backslash the string itself.
-- One step law for each kind of place; the rest is induction on the grammar or on the list.
use Prim.Native.Nat.{ℕ, zero, suc, ◌+◌, ◌-◌, ◌<◌, ◌≤◌}
use mathlib.Core.Path.{◌≡◌, refl, sym, ap, ◌∙◌}
use mathlib.Core.List.{List, [], ◌∷◌, ◌++◌, append_assoc, append-nil}
use native.Mathlib.Nat.{add-zero, add_assoc, zero-add}
use mathlib.Core.Logic.{dite}
use native.Mathlib.Omega.{arith}
use native.Mathlib.Decide.{dec_lt}
use lib.ListN.{length, get_or, drop, length-append}
use lib.Seq.{get_or-drop, drop-drop, drop-append_seam}
use lib.Dec.{eqb}
use borrow.Author.Tests.{eq-eqb, ne_eqb, eqb-false}
use Rattle.scan.specs.Bytes.{All, none, also}
use Rattle.scan.specs.inner.Span.{step, Span}
use Rattle.scan.proofs.Step.{rest_more, pick_by}
use Rattle.scan.proofs.SpanLaws.{to_span, cut_at}
use Rattle.scan.proofs.AllLaws.{all_map}
use Rattle.utf8.specs.Utf8 as utf8
use Rattle.utf8.specs.Encode.{encode}
use Rattle.utf8.proofs.Laws.{utf8_append, utf8_char}
use Rattle.utf8.proofs.EncodeLaws.{encode_one, encode_utf8, encode_length}
use Rattle.jsontext.specs.declared.Escape.{Escape}
use Rattle.jsontext.specs.Grammar as json
use Rattle.jsontext.specs.inner.Escape.{unit_at, escape, unicode_at, escape_at, or_itself, unescaped, unescape}
use Rattle.jsontext.proofs.EscapeLaws.{escape_letter_lem, escape_unicode, escape_pair, unit_length, letter_small, pair_scalar}
use Rattle.jsontext.proofs.TextLaws.{to_ascii, high_bytes, Kind, narrow, wide, kind}

-- ---- one step at a place

-- an escape in a part that starts at a place is the escape there in the whole
unit_drop : (t : List ℕ) (i j : ℕ) → unit_at (drop i t) j ≡ unit_at t (i + j)
unfolding unit_at
unit_drop t i j = simp (get_or-drop, add_assoc)

escape_drop : (t : List ℕ) (i : ℕ) → escape_at (drop i t) 0 ≡ escape_at t i
unfolding escape_at unicode_at
escape_drop t i = simp (unit_drop, get_or-drop, add-zero)

-- the bytes that are still to pass are dropped
skip : (k : ℕ) (l : List ℕ) → unescaped k l ≡ unescape (drop k l)
unfolding unescaped unescape
skip zero [] = refl
skip zero (b ∷ l) = refl
skip (suc k) [] = refl
skip (suc k) (b ∷ l) = skip k l

-- nothing stands for nothing
pub unescape_none : unescape [] ≡ []
unfolding unescaped unescape
unescape_none = refl

-- a byte that is no backslash stands for itself
pub unescape_byte : {b : ℕ} → (b ≡ 0x5C → ⊥) → (l : List ℕ) → unescape (b ∷ l) ≡ b ∷ unescape l
unfolding unescaped unescape
unescape_byte {b} n l = rw (ne_eqb b 0x5C n)

-- an escape, or the backslash itself, takes a byte or more
pub width_some : (x : Escape) → 1 ≤ (or_itself x).width
unfolding or_itself
width_some x = pick_by (λ (y : Escape). 1 ≤ y.width) (eqb x.width 0) (λ t. omega arith) (λ f. let n = eqb-false x.width 0 f in omega (arith, n))

step_slash : (b : ℕ) (l : List ℕ) → b ≡ 0x5C
    → unescape (b ∷ l) ≡ encode (or_itself (escape_at (b ∷ l) 0)).scalar ++ unescaped ((or_itself (escape_at (b ∷ l) 0)).width - 1) l
unfolding unescaped unescape
step_slash b l p = rw (eq-eqb b 0x5C p)

-- a backslash: the escape there, or itself
pub unescape_escape : (t : List ℕ) (i : ℕ) {e : Escape} → i < length t → get_or t i 0 ≡ 0x5C → e ≡ or_itself (escape_at t i)
    → unescape (drop i t) ≡ encode e.scalar ++ unescape (drop (i + e.width) t)
unescape_escape t i {e} h q f =
    let l = drop (i + 1) t in
    let r = rest_more t i h in
    let g : or_itself (escape_at (get_or t i 0 ∷ l) 0) ≡ e = ap (λ (m : List ℕ). or_itself (escape_at m 0)) (sym r) ∙ ap or_itself (escape_drop t i) ∙ sym f in
    let w : 1 ≤ e.width = rw f (width_some (escape_at t i)) in
    let n : i + 1 + (e.width - 1) ≡ i + e.width = omega arith in
    ap unescape r
    ∙ step_slash (get_or t i 0) l q
    ∙ ap (λ (y : Escape). encode y.scalar ++ unescaped (y.width - 1) l) g
    ∙ ap (λ (m : List ℕ). encode e.scalar ++ m)
    (skip (e.width - 1) l ∙ ap unescape (drop-drop (e.width - 1) (i + 1) t ∙ ap (λ (k : ℕ). drop k t) n))

-- ---- whole characters

-- bytes without a backslash stand for themselves, whatever follows
pub unescape_plain : {a : List ℕ} → All (λ (b : ℕ). b ≡ 0x5C → ⊥) a → (l : List ℕ) → unescape (a ++ l) ≡ a ++ unescape l
unescape_plain none l = refl
unescape_plain (also {b = b} {l = m} n g) l = unescape_byte n (m ++ l) ∙ ap (λ (k : List ℕ). b ∷ k) (unescape_plain g l)

-- a string without a backslash is itself
pub unescape_itself : {a : List ℕ} → All (λ (b : ℕ). b ≡ 0x5C → ⊥) a → unescape a ≡ a
unescape_itself {a} g = ap unescape (sym (append-nil a)) ∙ unescape_plain g [] ∙ ap (λ (m : List ℕ). a ++ m) unescape_none ∙ append-nil a

-- an escape in front, whatever follows
escape_front : (c l : List ℕ) (w n : ℕ) → 0 < w → length c ≡ w → get_or (c ++ l) 0 0 ≡ 0x5C → escape_at (c ++ l) 0 ≡ escape w n → unescape (c ++ l) ≡ encode n ++ unescape l
unfolding or_itself
escape_front c l w n h k q e =
    let f : escape w n ≡ or_itself (escape_at (c ++ l) 0) = rw (e, ne_eqb w 0 (λ z. omega arith)) in
    let d : drop (0 + w) (c ++ l) ≡ l = rw (zero-add, ← k) (drop-append_seam c l) in
    unescape_escape (c ++ l) 0 (omega (arith, length-append c l)) q f ∙ ap (λ (m : List ℕ). encode n ++ unescape m) d

under : {low high b : ℕ} → high < 0x5C → utf8.Octet low high b → b ≡ 0x5C → ⊥
under h (utf8.octet p q) e = omega arith

over : {low high b : ℕ} → 0x5C < low → utf8.Octet low high b → b ≡ 0x5C → ⊥
over h (utf8.octet p q) e = omega arith

higher : (b : ℕ) → 0x80 ≤ b → b ≡ 0x5C → ⊥
higher b h e = omega arith

-- the bytes of an unescaped character are no backslash
unescaped_plain : {c : List ℕ} → json.Unescaped c → All (λ (b : ℕ). b ≡ 0x5C → ⊥) c
unescaped_plain (json.to_21 p) = also (under (omega arith) p) none
unescaped_plain (json.to_5_b p) = also (under (omega arith) p) none
unescaped_plain (json.to_7_f p) = also (over (omega arith) p) none
unescaped_plain (json.Unescaped.above g) = all_map higher (high_bytes g)

slash : {s l : List ℕ} {a c u : ℕ} → json.Unit l u → Span s a l c → get_or s a 0 ≡ 0x5C
slash (json.unit p q r t) (step h e x) = e

-- over ++ of whole characters: a character of the grammar in front gives the bytes that it stands for
pub unescape_char : {c t : List ℕ} → json.SpelledChar c t → (l : List ℕ) → unescape (c ++ l) ≡ t ++ unescape l
unescape_char (json.unescaped g) l = unescape_plain (unescaped_plain g) l
unescape_char {c} (json.letter {b = b} g) l =
    escape_front c l 2 b (omega arith) refl refl (escape_letter_lem g (to_span (c ++ l) c l 0 refl)) ∙ ap (λ (m : List ℕ). m ++ unescape l) (encode_one b (letter_small g).1)
unescape_char {c} (json.unicode {u = u} g n) l =
    let r = to_span (c ++ l) c l 0 refl in
    escape_front c l 6 u (omega arith) (unit_length g) (slash g r) (escape_unicode g n r)
unescape_char {c} (json.pair {l = x} {m = y} {u = u} {v = v} p (utf8.octet h i) q (utf8.octet j k)) l =
    let r = to_span (c ++ l) c l 0 refl in
    let n : length (x ++ y) ≡ 12 = length-append x y ∙ omega (arith, unit_length p, unit_length q) in
    escape_front c l 12 (json.paired u v) (omega arith) n (slash p (cut_at x 6 (unit_length p) r).0) (escape_pair p h i q j k r)

-- THE meaning: a string of the grammar stands for the bytes of its characters
pub unescape_chars : {l t : List ℕ} → json.Chars l t → unescape l ≡ t
unescape_chars json.no_char = unescape_none
unescape_chars (json.char {t = t} {l = l} g f) = unescape_char g l ∙ ap (λ (m : List ℕ). t ++ m) (unescape_chars f)

-- characters behind characters
pub chars_append : {k l t u : List ℕ} → json.Chars k t → json.Chars l u → json.Chars (k ++ l) (t ++ u)
chars_append json.no_char h = h
chars_append {l = l} {u = u} (json.char {c = c} {t = t} {l = m} {r = r} g f) h = rw (append_assoc c m l, append_assoc t r u) (json.char g (chars_append f h))

-- over ++ of whole strings of the grammar
pub unescape_append : {k t : List ℕ} → json.Chars k t → (l : List ℕ) → unescape (k ++ l) ≡ unescape k ++ unescape l
unescape_append json.no_char l = ap (λ (m : List ℕ). m ++ unescape l) (sym unescape_none)
unescape_append (json.char {c = c} {t = t} {l = m} g f) l =
    ap unescape (append_assoc c m l)
    ∙ unescape_char g (m ++ l)
    ∙ ap (λ (k : List ℕ). t ++ k) (unescape_append f l)
    ∙ sym (append_assoc t (unescape m) (unescape l))
    ∙ ap (λ (k : List ℕ). k ++ unescape l) (sym (unescape_char g m))

-- ---- the text is UTF-8

pub unescaped_char : {c : List ℕ} → json.Unescaped c → utf8.Char c
unescaped_char (json.to_21 {b = b} (utf8.octet p q)) = utf8.one (utf8.octet {b = b} (omega arith) (omega arith))
unescaped_char (json.to_5_b {b = b} (utf8.octet p q)) = utf8.one (utf8.octet {b = b} (omega arith) (omega arith))
unescaped_char (json.to_7_f {b = b} (utf8.octet p q)) = utf8.one (utf8.octet {b = b} (omega arith) (omega arith))
unescaped_char (json.Unescaped.above g) = g

char_utf8 : {c t : List ℕ} → json.SpelledChar c t → utf8.Utf8 t
char_utf8 (json.unescaped g) = utf8_char (unescaped_char g)
char_utf8 (json.letter {b = b} g) = let h = letter_small g in utf8_char (utf8.one (utf8.octet {b = b} (omega arith) (omega arith)))
char_utf8 (json.unicode g n) = encode_utf8 n
char_utf8 (json.pair {u = u} {v = v} p (utf8.octet h i) q (utf8.octet j k)) = encode_utf8 (pair_scalar u v (omega arith) (omega arith))

pub chars_utf8 : {l t : List ℕ} → json.Chars l t → utf8.Utf8 t
chars_utf8 json.no_char = utf8.Utf8.none
chars_utf8 (json.char g f) = utf8_append (char_utf8 g) (chars_utf8 f)

-- the text of a string of the grammar is well-formed UTF-8
pub unescape_utf8 : {l t : List ℕ} → json.Chars l t → utf8.Utf8 (unescape l)
unescape_utf8 g = rw (unescape_chars g) (chars_utf8 g)

-- ---- a text is no longer than it is spelled

-- a character of the grammar is no longer than it is spelled, and as long only where it stands for itself
char_same : {c t : List ℕ} → json.SpelledChar c t → (length t ≤ length c) × (length t ≡ length c → t ≡ c)
char_same (json.unescaped g) = (omega arith, λ e. refl)
char_same (json.letter g) = (omega arith, λ e. absurd (omega arith))
char_same (json.unicode {u = u} p g) = let n = encode_length g in let k = unit_length p in (omega arith, λ e. absurd (omega arith))
char_same (json.pair {l = l} {m = m} {u = u} {v = v} p (utf8.octet h i) q (utf8.octet j k)) =
    let n = encode_length (pair_scalar u v (omega arith) (omega arith)) in
    let w = length-append l m in
    let x = unit_length p in
    let y = unit_length q in
    (omega arith, λ e. absurd (omega arith))

pub chars_same : {l t : List ℕ} → json.Chars l t → (length t ≤ length l) × (length t ≡ length l → t ≡ l)
chars_same json.no_char = (omega arith, λ e. refl)
chars_same (json.char {c = c} {t = t} {l = l} {r = r} g f) =
    let a = char_same g in
    let b = chars_same f in
    let n = length-append t r in
    let m = length-append c l in (
      omega (arith, a.0, b.0),
      λ e.
          let x : length t ≡ length c = omega (arith, a.0, b.0, e) in
          let y : length r ≡ length l = omega (arith, a.0, b.0, e) in
          rw (a.1 x, b.1 y),
    )

-- ---- texts that were escaped byte by byte

-- how a byte may be spelled: by itself, unless it is a backslash, or by a letter
pub data Spelling : ℕ → List ℕ → Type 0 where
  itself : {b : ℕ} → (b ≡ 0x5C → ⊥) → Spelling b (b ∷ [])
  lettered : {c b : ℕ} → json.Letter c b → Spelling b (0x5C ∷ c ∷ [])

spelling_back : {b : ℕ} {c : List ℕ} → Spelling b c → (l : List ℕ) → unescape (c ++ l) ≡ b ∷ unescape l
spelling_back (itself n) l = unescape_byte n l
spelling_back (lettered g) l = unescape_char (json.letter g) l

-- a text escaped byte by byte, each byte so spelled, comes back
pub unescape_back : (f : ℕ → List ℕ) (escaped : List ℕ → List ℕ) → ((b : ℕ) → Spelling b (f b)) → escaped [] ≡ [] → ((b : ℕ) (t : List ℕ) → escaped (b ∷ t) ≡ f b ++ escaped t)
    → (t : List ℕ) → unescape (escaped t) ≡ t
unescape_back f escaped s z k [] = ap unescape z ∙ unescape_none
unescape_back f escaped s z k (b ∷ t) =
    ap unescape (k b t) ∙ spelling_back (s b) (escaped t) ∙ ap (λ (m : List ℕ). b ∷ m) (unescape_back f escaped s z k t)

-- ---- texts that were escaped byte by byte are strings of the grammar

-- how a byte of a text may be spelled in a string of the grammar
pub data Written : ℕ → List ℕ → Type 0 where
  high : {b : ℕ} → 0x80 ≤ b → Written b (b ∷ [])
  ascii : {b : ℕ} {l : List ℕ} → b < 0x80 → json.SpelledChar l (b ∷ []) → Written b l

-- by itself, or by a letter
pub by_itself : (b : ℕ) → 0x20 ≤ b → (b ≡ 0x22 → ⊥) → (b ≡ 0x5C → ⊥) → Written b (b ∷ [])
by_itself b h q s = dite (dec_lt b 0x80) (λ a. ascii a (json.unescaped (to_ascii b h a q s))) (λ a. high (omega (arith, a)))

pub by_letter : {c b : ℕ} → json.Letter c b → Written b (0x5C ∷ c ∷ [])
by_letter g = ascii (letter_small g).1 (json.letter g)

written_high : {b : ℕ} {l : List ℕ} → 0x80 ≤ b → Written b l → l ≡ b ∷ []
written_high h (high k) = refl
written_high h (ascii k g) = absurd (omega arith)

written_ascii : {b : ℕ} {l : List ℕ} → b < 0x80 → Written b l → json.SpelledChar l (b ∷ [])
written_ascii h (high k) = absurd (omega arith)
written_ascii h (ascii k g) = g

module _ (f : ℕ → List ℕ) (escaped : List ℕ → List ℕ) (z : escaped [] ≡ []) (k : (b : ℕ) (t : List ℕ) → escaped (b ∷ t) ≡ f b ++ escaped t) where
  -- bytes above ASCII stand as they are
  high_stand : {c : List ℕ} → All (λ (b : ℕ). 0x80 ≤ b) c → (l : List ℕ) → All (λ (b : ℕ). Written b (f b)) (c ++ l)
      → (escaped (c ++ l) ≡ c ++ escaped l) × All (λ (b : ℕ). Written b (f b)) l
  high_stand none l w = (refl, w)
  high_stand (also {b = b} {l = c} h r) l (also w v) =
      let u = high_stand r l v in
      (k b (c ++ l) ∙ ap (λ (m : List ℕ). m ++ escaped (c ++ l)) (written_high h w) ∙ ap (λ (m : List ℕ). b ∷ m) u.0, u.1)

  -- a character in front
  in_front_lem : {c : List ℕ} → Kind c → (l : List ℕ) → (All (λ (b : ℕ). Written b (f b)) l → json.Chars (escaped l) l)
      → All (λ (b : ℕ). Written b (f b)) (c ++ l) → json.Chars (escaped (c ++ l)) (c ++ l)
  in_front_lem (narrow {a = a} h) l r (also w v) = rw (k a l) (json.char (written_ascii h w) (r v))
  in_front_lem (wide g) l r w = let u = high_stand (high_bytes g) l w in rw u.0 (json.char (json.unescaped (json.Unescaped.above g)) (r u.1))

  -- a text of UTF-8 whose bytes are so spelled, byte by byte, is a string of the grammar that stands for the text
  pub escaped_chars : {t : List ℕ} → utf8.Utf8 t → All (λ (b : ℕ). Written b (f b)) t → json.Chars (escaped t) t
  escaped_chars utf8.Utf8.none w = rw z json.no_char
  escaped_chars (utf8.char {l = l} g u) w = in_front_lem (kind g) l (λ v. escaped_chars u v) w
