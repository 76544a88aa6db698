-- A string at a place against the grammar, in both directions: it is read exactly where the RFC spells one, and the
-- bytes between its quotes are told.
-- Soundness is a walk over `chars_at`, which adds one character in front; completeness is one step for each kind of
-- character.
use Prim.Native.Nat.{ℕ, zero, suc, ◌+◌, ◌-◌, ◌<◌, ◌≤◌}
use mathlib.Core.Path.{◌≡◌, refl, sym, ap, ◌∙◌}
use mathlib.Core.Bool.{true}
use mathlib.Core.List.{List, [], ◌∷◌, ◌++◌, append_assoc}
use mathlib.Core.Logic.{dite}
use native.Mathlib.Omega.{arith}
use native.Mathlib.Decide.{dec_lt}
use lib.ListN.{length, get_or, take, drop, length-append}
use lib.Seq.{take_at}
use lib.Dec.{ltb, eqb}
use borrow.Author.Tests.{lt-ltb, le-ltb, ne_eqb, ltb-true, ltb-false, eqb-true, eqb-false}
use Rattle.scan.specs.Choice.{refused, read}
use Rattle.scan.specs.Bytes.{All, none, also}
use Rattle.scan.specs.inner.Span.{here, step, Span}
use Rattle.scan.proofs.SpanLaws.{join, cut, cut_at, open_span, close_span, bite, seen, span_length, span_fits, from_span}
use Rattle.scan.proofs.Reading.{Reads, reads, fails, pick_reads, from_reads}
use Rattle.utf8.specs.Utf8 as utf8
use Rattle.utf8.specs.inner.Width.{width_at}
use Rattle.utf8.proofs.WidthLaws.{width_accepts, width_consumes, char_length}
use Rattle.jsontext.specs.declared.Spelled.{Spelled}
use Rattle.jsontext.specs.declared.Escape.{Escape}
use Rattle.jsontext.specs.Grammar as json
use Rattle.jsontext.specs.inner.Escape.{escape_at}
use Rattle.jsontext.specs.Text.{onward, chars_at, string_at}
use Rattle.jsontext.proofs.EscapeLaws.{EscapeAt, escape_is, no_escape_lem, escape_at_lem, escape_letter_lem, escape_unicode, escape_pair, unit_length}

-- ---- unescaped characters by their first byte

-- one byte
pub to_ascii : (b : ℕ) → 0x20 ≤ b → b < 0x80 → (b ≡ 0x22 → ⊥) → (b ≡ 0x5C → ⊥) → json.Unescaped (b ∷ [])
to_ascii b l h p q =
    dite (dec_lt b 0x22) (λ k. json.to_21 (utf8.octet l (omega arith)))
    (λ m.
    dite (dec_lt b 0x5C) (λ k. json.to_5_b (utf8.octet (omega (arith, m, p)) (omega arith))) (λ n. json.to_7_f (utf8.octet (omega (arith, n, q)) (omega arith))))

octet_high : {low high b : ℕ} → 0x80 ≤ low → utf8.Octet low high b → 0x80 ≤ b
octet_high h (utf8.octet p q) = omega arith

tail_high : {b : ℕ} → utf8.Tail b → 0x80 ≤ b
tail_high t = octet_high (omega arith) t

-- and all bytes of a character of several bytes are above ASCII
pub high_bytes : {a b : ℕ} {l : List ℕ} → utf8.Char (a ∷ b ∷ l) → All (λ (x : ℕ). 0x80 ≤ x) (a ∷ b ∷ l)
high_bytes (utf8.two p t) = also (octet_high (omega arith) p) (also (tail_high t) none)
high_bytes (utf8.three_E0 p t) = also {b = 0xE0} (omega arith) (also (octet_high (omega arith) p) (also (tail_high t) none))
high_bytes (utf8.three_E1 p t u) = also (octet_high (omega arith) p) (also (tail_high t) (also (tail_high u) none))
high_bytes (utf8.three_ED p t) = also {b = 0xED} (omega arith) (also (octet_high (omega arith) p) (also (tail_high t) none))
high_bytes (utf8.three_EE p t u) = also (octet_high (omega arith) p) (also (tail_high t) (also (tail_high u) none))
high_bytes (utf8.four_F0 p t u) = also {b = 0xF0} (omega arith) (also (octet_high (omega arith) p) (also (tail_high t) (also (tail_high u) none)))
high_bytes (utf8.four_F1 p t u v) = also (octet_high (omega arith) p) (also (tail_high t) (also (tail_high u) (also (tail_high v) none)))
high_bytes (utf8.four_F4 p t u) = also {b = 0xF4} (omega arith) (also (octet_high (omega arith) p) (also (tail_high t) (also (tail_high u) none)))

-- one byte of ASCII, or several above it
pub data Kind : List ℕ → Type 0 where
  narrow : {a : ℕ} → a < 0x80 → Kind (a ∷ [])
  wide : {a b : ℕ} {l : List ℕ} → utf8.Char (a ∷ b ∷ l) → Kind (a ∷ b ∷ l)

pub kind : {c : List ℕ} → utf8.Char c → Kind c
kind (utf8.one {a = a} (utf8.octet p q)) = narrow {a = a} (omega arith)
kind (utf8.two p q) = wide (utf8.two p q)
kind (utf8.three_E0 p q) = wide (utf8.three_E0 p q)
kind (utf8.three_E1 p q t) = wide (utf8.three_E1 p q t)
kind (utf8.three_ED p q) = wide (utf8.three_ED p q)
kind (utf8.three_EE p q t) = wide (utf8.three_EE p q t)
kind (utf8.four_F0 p q t) = wide (utf8.four_F0 p q t)
kind (utf8.four_F1 p q t u) = wide (utf8.four_F1 p q t u)
kind (utf8.four_F4 p q t) = wide (utf8.four_F4 p q t)

-- a first byte above ASCII has more behind it
to_above : {s c : List ℕ} {a e : ℕ} → Kind c → Span s a c e → 0x80 ≤ get_or s a 0 → json.Unescaped c
to_above (narrow h) (step k f r) l = absurd (omega arith)
to_above (wide g) r l = json.Unescaped.above g

pub first_of : {P : ℕ → Type 0} {b : ℕ} {l : List ℕ} → All P (b ∷ l) → P b
first_of (also p r) = p

-- ---- consumes

-- from place i on, in a string that starts at `start`: characters and the closing quote
data Rest (start i : ℕ) : Spelled → List ℕ → Type 0 where
  rest : {l t : List ℕ} {n : ℕ} → json.Chars l t → n ≡ i + length l - (start + 1) → Rest start i (record { from = start + 1; count = n }) (l ++ (0x22 ∷ []))

-- one character more in front
further : {s c t l : List ℕ} {start i j e : ℕ} {x : Spelled} → json.SpelledChar c t → Span s i c j → Rest start j x l → Span s j l e
    → Reads (Rest start i) s i (read x e)
further {c = c} {start = start} {i = i} {e = e} g r (rest {l = m} {n = n} h q) p =
    let k = span_length r in
    let f : n ≡ i + length (c ++ m) - (start + 1) = simp length-append (omega arith) in
    reads {e = e} (rest (json.char g h) f) (rw append_assoc (join r p))

chars_consume : (k : ℕ) (s : List ℕ) (start i : ℕ) → Reads (Rest start i) s i (chars_at k s start i)
unfolding chars_at
chars_consume zero s start i = fails
chars_consume (suc k) s start i =
    pick_reads (eqb (get_or s i 0) 0x22) (λ t. reads {e = i + 1} (rest json.no_char (omega arith)) (bite 0x22 refl t here))
    (λ quote.
    pick_reads (ltb (get_or s i 0) 0x20) (λ t. fails)
    (λ control.
    pick_reads (eqb (get_or s i 0) 0x5C) (λ t. escaped (chars_consume k s start) (escape_at_lem s i (eqb-true (get_or s i 0) 0x5C t)))
    (λ slash.
    let p = eqb-false (get_or s i 0) 0x22 quote in
    let q = ltb-false (get_or s i 0) 0x20 control in
    let u = eqb-false (get_or s i 0) 0x5C slash in
    pick_reads (ltb (get_or s i 0) 0x80)
    (λ t.
    let h = ltb-true (get_or s i 0) 0x80 t in
    let g = json.unescaped (to_ascii (get_or s i 0) q h p u) in
    from_reads (chars_consume k s start (i + 1)) (λ x l e. further g (step (seen (λ (b : ℕ). ltb 0 b) s i refl (lt-ltb 0 (get_or s i 0) (omega arith))) refl here)))
    (λ high.
    pick_reads (eqb (width_at s i) 0) (λ t. fails)
    (λ some.
    let c = width_consumes s i (eqb-false (width_at s i) 0 some) in
    let g = json.unescaped (to_above (kind c.1) c.2 (ltb-false (get_or s i 0) 0x80 high)) in
    from_reads (chars_consume k s start (i + width_at s i)) (λ x l e. further g c.2))))))
  where
    escaped : {x : Escape} → ((j : ℕ) → Reads (Rest start j) s j (chars_at k s start j)) → EscapeAt s i x
        → Reads (Rest start i) s i (onward x.width 14 start i (chars_at k s start))
    escaped next (escape_is {w = w} g n r h j m o) = pick_reads (eqb w 0) (λ t. fails) (λ f. from_reads (next (i + w)) (λ x l e. further g r))
    escaped next no_escape_lem = fails

-- the string that starts at a: its spelled bytes stand behind the quote
pub data StringAt (a : ℕ) : Spelled → List ℕ → Type 0 where
  string_is : {l q : List ℕ} {n : ℕ} → json.QuotedChars l q → n ≡ length l → StringAt a (record { from = a + 1; count = n }) q

-- consumes: what is read as a string is one
pub string_consumes : (s : List ℕ) (a : ℕ) → Reads (StringAt a) s a (string_at s a)
unfolding string_at
string_consumes s a =
    pick_reads (eqb (get_or s a 0) 0x22) (λ t. from_reads (chars_consume (length s) s a (a + 1)) (λ x l e. opened t)) (λ f. fails)
  where
    opened : {x : Spelled} {l : List ℕ} {e : ℕ} → eqb (get_or s a 0) 0x22 ≡ true → Rest a (a + 1) x l → Span s (a + 1) l e → Reads (StringAt a) s a (read x e)
    opened t (rest {l = l} {n = n} h q) p = let f : n ≡ length l = omega arith in reads (string_is (json.quoted h) f) (bite 0x22 refl t p)

-- ---- accepts

-- an ASCII character is passed
ascii_step : (s : List ℕ) (i k start b : ℕ) → get_or s i 0 ≡ b → 0x20 ≤ b → b < 0x80 → (b ≡ 0x22 → ⊥) → (b ≡ 0x5C → ⊥)
    → chars_at (suc k) s start i ≡ chars_at k s start (i + 1)
unfolding chars_at
ascii_step s i k start b e l h p q = rw (e, ne_eqb b 0x22 p, le-ltb b 0x20 l, ne_eqb b 0x5C q, lt-ltb b 0x80 h)

-- an escape is passed
escape_step : (s : List ℕ) (i c k start w n : ℕ) → get_or s i 0 ≡ 0x5C → escape_at s i ≡ record { width = suc w; scalar = n } → c ≡ i + suc w
    → chars_at (suc k) s start i ≡ chars_at k s start c
unfolding chars_at
escape_step s i c k start w n e f h = rw (e, f, ne_eqb (suc w) 0 (λ x. omega arith), h)

-- a sequence of several bytes is passed
wide_step : {s c : List ℕ} {i j : ℕ} (k start a : ℕ) → utf8.Char c → Span s i c j → get_or s i 0 ≡ a → 0x80 ≤ a → chars_at (suc k) s start i ≡ chars_at k s start j
unfolding chars_at
wide_step {s} {c} {i} {j} k start a g r e h =
    let w = width_accepts g r in
    let n = (char_length g).0 in
    let q : i + length c ≡ j = sym (span_length r) in
    rw (
      e,
      ne_eqb a 0x22 (λ x. omega arith),
      le-ltb a 0x20 (omega arith),
      ne_eqb a 0x5C (λ x. omega arith),
      le-ltb a 0x80 h,
      w,
      ne_eqb (length c) 0 (λ x. omega arith),
      q,
    )

slash : {s l : List ℕ} {a c u : ℕ} → json.Unit l u → Span s a l c → get_or s a 0 ≡ 0x5C
slash (json.unit p q r t) (step h e x) = e

-- each character is passed
char_step : {s c t : List ℕ} {i j : ℕ} (k start : ℕ) → json.SpelledChar c t → Span s i c j → chars_at (suc k) s start i ≡ chars_at k s start j
char_step {s} {i = i} {j = j} k start (json.unescaped (json.to_21 {b = b} (utf8.octet l h))) (step p e here) =
    ascii_step s i k start b e l (omega arith) (λ x. omega arith) (λ x. omega arith)
char_step {s} {i = i} {j = j} k start (json.unescaped (json.to_5_b {b = b} (utf8.octet l h))) (step p e here) =
    ascii_step s i k start b e (omega arith) (omega arith) (λ x. omega arith) (λ x. omega arith)
char_step {s} {i = i} {j = j} k start (json.unescaped (json.to_7_f {b = b} (utf8.octet l h))) (step p e here) =
    ascii_step s i k start b e (omega arith) (omega arith) (λ x. omega arith) (λ x. omega arith)
char_step {s} {i = i} {j = j} k start (json.unescaped (json.Unescaped.above {a = a} g)) r = wide_step k start a g r (open_span r).1 (first_of (high_bytes g))
char_step {s} {i = i} {j = j} k start (json.letter {b = b} g) r = escape_step s i j k start 1 b (open_span r).1 (escape_letter_lem g r) (span_length r)
char_step {s} {i = i} {j = j} k start (json.unicode {u = u} g n) r =
    escape_step s i j k start 5 u (slash g r) (escape_unicode g n r) (omega (arith, span_length r, unit_length g))
char_step {s} {i = i} {j = j} k start (json.pair {l = l} {m = m} {u = u} {v = v} p (utf8.octet h x) q (utf8.octet y z)) r =
    escape_step s i j k start 11 (json.paired u v) (slash p (cut_at l 6 (unit_length p) r).0) (escape_pair p h x q y z r)
    (omega (arith, span_length r, length-append l m, unit_length p, unit_length q))

-- a character has a byte
char_some : {c t : List ℕ} → json.SpelledChar c t → 1 ≤ length c
char_some (json.unescaped (json.to_21 g)) = omega arith
char_some (json.unescaped (json.to_5_b g)) = omega arith
char_some (json.unescaped (json.to_7_f g)) = omega arith
char_some (json.unescaped (json.Unescaped.above g)) = omega arith
char_some (json.letter g) = omega arith
char_some (json.unicode g n) = omega (arith, unit_length g)
char_some (json.pair {l = l} {m = m} p h q k) = omega (arith, length-append l m, unit_length p)

chars_accept : {s l t : List ℕ} {i j : ℕ} (k start : ℕ) → json.Chars l t → Span s i l j → length l < k → get_or s j 0 ≡ 0x22
    → chars_at k s start i ≡ read (record { from = start + 1; count = j - (start + 1) }) (j + 1)
unfolding chars_at
chars_accept zero start g r h e = absurd (omega arith)
chars_accept (suc k) start json.no_char here h e = rw e
chars_accept (suc k) start (json.char {c = c} {l = l} g f) r h e =
    let u = cut c r in
    char_step k start g u.1 ∙ chars_accept {l = l} k start f u.2 (omega (arith, length-append c l, char_some g)) e

-- accepts: a string of the grammar is read, and its spelled bytes are told
pub string_accepts : {s l q : List ℕ} {a c : ℕ} → json.QuotedChars l q → Span s a q c → string_at s a ≡ read (record { from = a + 1; count = length l }) c
unfolding string_at
string_accepts {s} {a = a} {c = c} (json.quoted {l = l} g) (step h e r) =
    let u = cut l r in
    let v = close_span u.2 in
    let n : u.0 - (a + 1) ≡ length l = omega (arith, span_length u.1) in
    let f : u.0 + 1 ≡ c = sym v.1 in
    rw (e, chars_accept (length s) a g u.1 (omega (arith, h, span_fits r, length-append l (0x22 ∷ []))) v.0, n, f)

-- ---- refuses: the earliest fault decides, behind characters that are passed

chars_pass : {s l t : List ℕ} {i j : ℕ} (k start : ℕ) → json.Chars l t → Span s i l j → length l < k → (m : ℕ) × (chars_at k s start i ≡ chars_at (suc m) s start j)
chars_pass zero start g r h = absurd (omega arith)
chars_pass (suc k) start json.no_char here h = (k, refl)
chars_pass (suc k) start (json.char {c = c} {l = l} g f) r h =
    let u = cut c r in
    let v = chars_pass {l = l} k start f u.2 (omega (arith, length-append c l, char_some g)) in
    (v.0, char_step k start g u.1 ∙ v.1)

string_open : {s l t : List ℕ} {a i : ℕ} → json.Chars l t → Span s a (0x22 ∷ l) i → (m : ℕ) × (string_at s a ≡ chars_at (suc m) s a i)
unfolding string_at
string_open {s} {a = a} g (step h e r) =
    let v = chars_pass (length s) a g r (omega (arith, h, span_fits r)) in
    (v.0, rw e v.1)

-- 5 at the first byte between the quotes: ill-formed UTF-8
pub string_ill_formed : {s l t : List ℕ} {a i : ℕ} → json.Chars l t → Span s a (0x22 ∷ l) i → 0x80 ≤ get_or s i 0 → width_at s i ≡ 0 → string_at s a ≡ refused 5 (a + 1)
unfolding chars_at
string_ill_formed {s} {i = i} g r h w =
    let b = get_or s i 0 in
    (string_open g r).1
    ∙ rw (ne_eqb b 0x22 (λ x. omega arith), le-ltb b 0x20 (omega arith), ne_eqb b 0x5C (λ x. omega arith), le-ltb b 0x80 h, w)

-- 14 at the opening quote: a raw control byte, or the input's end, which reads as one
pub string_control : {s l t : List ℕ} {a i : ℕ} → json.Chars l t → Span s a (0x22 ∷ l) i → get_or s i 0 < 0x20 → string_at s a ≡ refused 14 a
unfolding chars_at
string_control {s} {i = i} g r h =
    let b = get_or s i 0 in
    (string_open g r).1 ∙ rw (ne_eqb b 0x22 (λ x. omega arith), lt-ltb b 0x20 h)

-- and a backslash that begins no escape
pub string_no_escape : {s l t : List ℕ} {a i : ℕ} → json.Chars l t → Span s a (0x22 ∷ l) i → get_or s i 0 ≡ 0x5C → (escape_at s i).width ≡ 0 → string_at s a ≡ refused 14 a
unfolding chars_at
string_no_escape g r e w = (string_open g r).1 ∙ rw (e, w)

-- ---- the bytes between the quotes

-- the spelled bytes are the part of the input that is told
pub quoted_part : {s l q : List ℕ} {a c : ℕ} → json.QuotedChars l q → Span s a q c → take (length l) (drop (a + 1) s) ≡ l
quoted_part {s} (json.quoted {l = l} g) (step h e r) = let u = cut l r in rw (from_span u.1) (take_at l (drop u.0 s) (length l) refl)

-- what is read: the spelled bytes stand behind the quote, they are characters of the grammar, and the closing quote
-- follows
pub string_reads : {s : List ℕ} {a : ℕ} {x : Spelled} {e : ℕ} → string_at s a ≡ read x e
    → (l : List ℕ) × (q : List ℕ) × json.QuotedChars l q × Span s a q e × (x ≡ record { from = a + 1; count = length l }) × (take x.count (drop x.from s) ≡ l)
string_reads {s} {a} f = go (rw f at (string_consumes s a))
  where
    go : {x : Spelled} {e : ℕ} → Reads (StringAt a) s a (read x e)
        → (l : List ℕ) × (q : List ℕ) × json.QuotedChars l q × Span s a q e × (x ≡ record { from = a + 1; count = length l }) × (take x.count (drop x.from s) ≡ l)
    go (reads (string_is {l = l} {q = q} {n = n} g h) r) =
        (l, q, g, r, ap (λ (m : ℕ). record { from = a + 1; count = m }) h, rw h (quoted_part g r))
