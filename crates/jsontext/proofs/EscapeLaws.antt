-- Escapes at a place against the grammar: each character that the RFC spells with a backslash is found, and only such.
-- Soundness is a walk over the tests of `escape_at`; completeness reads the bytes off the span.
use Prim.Native.Nat.{ℕ, ◌+◌, ◌*◌, ◌-◌, ◌<◌, ◌≤◌, ◌^◌}
use mathlib.Core.Path.{◌≡◌, refl}
use mathlib.Core.Bool.{Bool, true, false}
use mathlib.Core.List.{List, [], ◌∷◌, ◌++◌}
use native.Mathlib.Omega.{arith}
use lib.ListN.{length, get_or, length-append}
use lib.Dec.{ltb, eqb}
use mir.Syntax.{w64}
use mir.Val.{Fits}
use borrow.Author.Tests.{lt-ltb, le-ltb, le-leb, lt-leb, eq-eqb, ne_eqb, ltb-true, ltb-false, eqb-true}
use Rattle.scan.specs.Choice.{pick}
use Rattle.scan.specs.Place.{within}
use Rattle.scan.specs.inner.Span.{here, step, Span}
use Rattle.scan.proofs.Step.{pick_by, byte_none}
use Rattle.scan.proofs.SpanLaws.{join, cut_at, nth, seen, span_fits}
use Rattle.utf8.specs.Utf8.{octet}
use Rattle.utf8.specs.Encode.{Scalar, below, above, encode}
use Rattle.utf8.proofs.EncodeLaws.{encode_one, encode_length}
use Rattle.scan.proofs.PlaceLaws.{within_bounds}
use Rattle.hexdigits.specs.Hex.{value_of}
use Rattle.hexdigits.specs.inner.LowerHex.{number, letter, LowerHex}
use Rattle.hexdigits.proofs.Digits.{value_digit, value_of_digit}
use Rattle.jsontext.specs.declared.Escape.{Escape}
use Rattle.jsontext.specs.Grammar as json
use Rattle.jsontext.specs.inner.Escape.{hex_value, unit_of, unit_at, escape, no_escape, unescaped_letter, letter_escape, pair_of, unicode_at, escape_at}

-- ---- a hex digit and its value

value_number : (b : ℕ) → 48 ≤ b → b ≤ 57 → value_of b ≡ b - 48
value_number b l h =
    let e : 48 + (b - 48) ≡ b = omega arith in
    rw (lt-ltb (b - 48) 10 (omega arith), e) at (value_of_digit (b - 48) (omega arith))

value_letter : (b : ℕ) → 97 ≤ b → b ≤ 102 → value_of b ≡ b - 87
value_letter b l h =
    let e : 87 + (b - 87) ≡ b = omega arith in
    rw (le-ltb (b - 87) 10 (omega arith), e) at (value_of_digit (b - 87) (omega arith))

-- accepts
digit_value : {b x : ℕ} → json.HexDigit b x → (hex_value b ≡ x) × (x < 16)
unfolding hex_value within
digit_value (json.HexDigit.number {b = b} l h) = (simp (lt-leb 0x41 b (omega arith)) (value_number b l h), omega arith)
digit_value (json.HexDigit.capital {b = b} l h) = (simp (le-leb 0x41 b l, le-leb b 0x46 h), omega arith)
digit_value (json.HexDigit.small {b = b} l h) = (simp (le-leb 0x41 b (omega arith), lt-leb b 0x46 (omega arith)) (value_letter b l h), omega arith)

-- consumes
value_hex : (b : ℕ) → hex_value b < 16 → json.HexDigit b (hex_value b)
unfolding hex_value
value_hex b =
    pick_by (λ (v : ℕ). v < 16 → json.HexDigit b v) (within 0x41 0x46 b) (λ t h. let r = within_bounds 0x41 0x46 b t in json.HexDigit.capital r.0 r.1)
    (λ f h. lower (value_digit b h))
  where
    lower : LowerHex b → json.HexDigit b (value_of b)
    lower (number l h) = rw (value_number b l h) (json.HexDigit.number l h)
    lower (letter l h) = rw (value_letter b l h) (json.HexDigit.small l h)

-- 0, what is read past the end, is no digit
pub digit_some : {b x : ℕ} → json.HexDigit b x → 0 < b
digit_some (json.HexDigit.number l h) = omega arith
digit_some (json.HexDigit.capital l h) = omega arith
digit_some (json.HexDigit.small l h) = omega arith

-- ---- four digits

-- accepts
unit_of_lem : {a b c d x y z w : ℕ} → json.HexDigit a x → json.HexDigit b y → json.HexDigit c z → json.HexDigit d w
    → unit_of a b c d ≡ ((x * 16 + y) * 16 + z) * 16 + w
unfolding unit_of
unit_of_lem {x = x} {y = y} {z = z} {w = w} p q r t =
    let e = digit_value p in
    let f = digit_value q in
    let g = digit_value r in
    let h = digit_value t in
    rw (e.0, f.0, g.0, h.0, lt-ltb x 16 e.1, lt-ltb y 16 f.1, lt-ltb z 16 g.1, lt-ltb w 16 h.1)

-- consumes
data UnitOf (a b c d : ℕ) : ℕ → Type 0 where
  four : {x y z w : ℕ} → json.HexDigit a x → json.HexDigit b y → json.HexDigit c z → json.HexDigit d w → UnitOf a b c d (((x * 16 + y) * 16 + z) * 16 + w)
  not_four : UnitOf a b c d 0x10000

of_unit : (a b c d : ℕ) → UnitOf a b c d (unit_of a b c d)
unfolding unit_of
of_unit a b c d =
    pick_by (UnitOf a b c d) (ltb (hex_value a) 16)
    (λ p.
    pick_by (UnitOf a b c d) (ltb (hex_value b) 16)
    (λ q.
    pick_by (UnitOf a b c d) (ltb (hex_value c) 16)
    (λ r.
    pick_by (UnitOf a b c d) (ltb (hex_value d) 16)
    (λ t.
    four (value_hex a (ltb-true (hex_value a) 16 p)) (value_hex b (ltb-true (hex_value b) 16 q)) (value_hex c (ltb-true (hex_value c) 16 r))
    (value_hex d (ltb-true (hex_value d) 16 t)))
    (λ f. not_four)) (λ f. not_four)) (λ f. not_four)) (λ f. not_four)

-- ---- \uXXXX at a place

-- a byte that is not 0 before a span (general)
before : {s l : List ℕ} {i j e b : ℕ} → j ≡ i + 1 → get_or s i 0 ≡ b → 0 < b → Span s j l e → Span s i (b ∷ l) e
before {s} {l} {i} {j} {e} {b} q f p r =
    step (seen (λ (x : ℕ). ltb 0 x) s i refl (rw f (lt-ltb 0 b p))) f (rw q at r)

-- what stands at a place: \uXXXX that says u, or none
pub data UnitAt (s : List ℕ) (a : ℕ) : ℕ → Type 0 where
  unit_is : {l : List ℕ} {u : ℕ} → json.Unit l u → u < 0x10000 → length l ≡ 6 → Span s a l (a + 6) → UnitAt s a u
  no_unit : UnitAt s a 0x10000

-- consumes
pub unit_at_lem : (s : List ℕ) (a : ℕ) → UnitAt s a (unit_at s a)
unfolding unit_at
unit_at_lem s a =
    pick_by (UnitAt s a) (eqb (get_or s a 0) 0x5C)
    (λ t.
    pick_by (UnitAt s a) (eqb (get_or s (a + 1) 0) 0x75)
    (λ u.
    go (eqb-true (get_or s a 0) 0x5C t) (eqb-true (get_or s (a + 1) 0) 0x75 u)
    (of_unit (get_or s (a + 2) 0) (get_or s (a + 3) 0) (get_or s (a + 4) 0) (get_or s (a + 5) 0)))
    (λ f. no_unit))
    (λ f. no_unit)
  where
    go : {u : ℕ} → get_or s a 0 ≡ 0x5C → get_or s (a + 1) 0 ≡ 0x75 → UnitOf (get_or s (a + 2) 0) (get_or s (a + 3) 0) (get_or s (a + 4) 0) (get_or s (a + 5) 0) u → UnitAt s a u
    go e f not_four = no_unit
    go e f (four p q r t) =
        let i = digit_value p in
        let j = digit_value q in
        let k = digit_value r in
        let l = digit_value t in
        unit_is (json.unit p q r t) (omega (arith, i.1, j.1, k.1, l.1)) refl
        (before {i = a} {j = a + 1} (omega arith) e (omega arith)
        (before {i = a + 1} {j = a + 2} (omega arith) f (omega arith)
        (before {i = a + 2} {j = a + 3} (omega arith) refl (digit_some p)
        (before {i = a + 3} {j = a + 4} (omega arith) refl (digit_some q)
        (before {i = a + 4} {j = a + 5} (omega arith) refl (digit_some r) (before {i = a + 5} {j = a + 6} (omega arith) refl (digit_some t) here))))))

-- accepts
pub unit_accepts : {s l : List ℕ} {a c u : ℕ} → json.Unit l u → Span s a l c → unit_at s a ≡ u
unfolding unit_at
unit_accepts {s} {a = a} (json.unit {a = x} {b = y} {c = z} {d = w} p q r t) h =
    let e = nth 0 h (omega arith) in
    let f = nth 1 h (omega arith) in
    let g : get_or s (a + 2) 0 ≡ x = nth 2 h (omega arith) in
    let i : get_or s (a + 3) 0 ≡ y = nth 3 h (omega arith) in
    let j : get_or s (a + 4) 0 ≡ z = nth 4 h (omega arith) in
    let k : get_or s (a + 5) 0 ≡ w = nth 5 h (omega arith) in
    let zero : a + 0 ≡ a = omega arith in
    rw (rw zero at e, f, g, i, j, k) (unit_of_lem p q r t)

u_follows : {s l : List ℕ} {a c u : ℕ} → json.Unit l u → Span s a l c → eqb (get_or s (a + 1) 0) 0x75 ≡ true
u_follows {s} {a = a} (json.unit p q r t) h = eq-eqb (get_or s (a + 1) 0) 0x75 (nth 1 h (omega arith))

unit_most : {l : List ℕ} {u : ℕ} → json.Unit l u → u < 0x10000
unit_most (json.unit p q r t) =
    let i = digit_value p in
    let j = digit_value q in
    let k = digit_value r in
    let l = digit_value t in
    omega arith

pub unit_length : {l : List ℕ} {u : ℕ} → json.Unit l u → length l ≡ 6
unit_length (json.unit p q r t) = refl

-- ---- a letter behind the backslash

pub data LetterOf (c : ℕ) : ℕ → Type 0 where
  letter_is : {b : ℕ} → json.Letter c b → LetterOf c b
  no_letter : LetterOf c 0

pub of_letter : (c : ℕ) → LetterOf c (unescaped_letter c)
unfolding unescaped_letter
of_letter c =
    key 0x22 (λ e. rw e (letter_is json.Letter.quotation_mark))
    (key 0x5C (λ e. rw e (letter_is json.Letter.reverse_solidus))
    (key 0x2F (λ e. rw e (letter_is json.Letter.solidus))
    (key 0x62 (λ e. rw e (letter_is json.Letter.backspace))
    (key 0x66 (λ e. rw e (letter_is json.Letter.form_feed))
    (key 0x6E (λ e. rw e (letter_is json.Letter.line_feed))
    (key 0x72 (λ e. rw e (letter_is json.Letter.carriage_return)) (key 0x74 (λ e. rw e (letter_is json.Letter.tab)) no_letter)))))))
  where
    key : {x y : ℕ} (k : ℕ) → (c ≡ k → LetterOf c x) → LetterOf c y → LetterOf c (pick (eqb c k) x y)
    key k f g = pick_by (LetterOf c) (eqb c k) (λ t. f (eqb-true c k t)) (λ n. g)

letter_of : {c b : ℕ} → json.Letter c b → unescaped_letter c ≡ b
unfolding unescaped_letter
letter_of json.Letter.quotation_mark = refl
letter_of json.Letter.reverse_solidus = refl
letter_of json.Letter.solidus = refl
letter_of json.Letter.backspace = refl
letter_of json.Letter.form_feed = refl
letter_of json.Letter.line_feed = refl
letter_of json.Letter.carriage_return = refl
letter_of json.Letter.tab = refl

-- what a letter stands for is ASCII and not 0, and the letter is neither 0 nor u
pub letter_small : {c b : ℕ} → json.Letter c b → (0 < b) × (b < 0x80) × (0 < c) × (c < 0x75)
letter_small json.Letter.quotation_mark = (omega arith, omega arith, omega arith, omega arith)
letter_small json.Letter.reverse_solidus = (omega arith, omega arith, omega arith, omega arith)
letter_small json.Letter.solidus = (omega arith, omega arith, omega arith, omega arith)
letter_small json.Letter.backspace = (omega arith, omega arith, omega arith, omega arith)
letter_small json.Letter.form_feed = (omega arith, omega arith, omega arith, omega arith)
letter_small json.Letter.line_feed = (omega arith, omega arith, omega arith, omega arith)
letter_small json.Letter.carriage_return = (omega arith, omega arith, omega arith, omega arith)
letter_small json.Letter.tab = (omega arith, omega arith, omega arith, omega arith)

-- ---- the escape at a place

-- what the answer says: a character of the grammar stands there, in w bytes that are no fewer than its own; or none
pub data EscapeAt (s : List ℕ) (a : ℕ) : Escape → Type 0 where
  escape_is : {l : List ℕ} {w n : ℕ} → json.SpelledChar l (encode n) → Scalar n → Span s a l (a + w) → length l ≡ w → 1 ≤ w → w ≤ 12 → length (encode n) ≤ w
      → EscapeAt s a (escape w n)
  no_escape_lem : EscapeAt s a no_escape

pick_escape : {s : List ℕ} {a : ℕ} (t : Bool) {x y : Escape} → (t ≡ true → EscapeAt s a x) → (t ≡ false → EscapeAt s a y) → EscapeAt s a (pick t x y)
pick_escape true f g = f refl
pick_escape false f g = g refl

unicode_is : {s : List ℕ} {a u : ℕ} → Scalar u → UnitAt s a u → u < 0x10000 → EscapeAt s a (escape 6 u)
unicode_is g no_unit h = absurd (omega arith)
unicode_is g (unit_is p k n r) h = escape_is (json.unicode p g) g r n (omega arith) (omega arith) (omega (arith, (encode_length g).1))

pub pair_scalar : (u v : ℕ) → u < 0xDC00 → v < 0xE000 → Scalar (json.paired u v)
pair_scalar u v h k = above {n = json.paired u v} (omega arith) (omega arith)

pair_is : {s : List ℕ} {a u v : ℕ} → 0xD800 ≤ u → u < 0xDC00 → 0xDC00 ≤ v → v < 0xE000 → UnitAt s a u → UnitAt s (a + 6) v → EscapeAt s a (escape 12 (json.paired u v))
pair_is l h k m no_unit y = absurd (omega arith)
pair_is l h k m (unit_is p i n r) no_unit = absurd (omega arith)
pair_is {s} {a} {u} {v} l h k m (unit_is {l = x} p i n r) (unit_is {l = y} q j o t) =
    let e : a + 6 + 6 ≡ a + 12 = omega arith in
    let g = pair_scalar u v h m in
    escape_is (json.pair p (octet l (omega arith)) q (octet k (omega arith))) g (rw e at (join r t)) (simp length-append (omega arith)) (omega arith) (omega arith)
    (omega (arith, (encode_length g).1))

unicode_at_lem : (s : List ℕ) (a u : ℕ) → UnitAt s a u → EscapeAt s a (unicode_at s a u)
unfolding unicode_at pair_of
unicode_at_lem s a u x =
    pick_escape (ltb u 0xD800) (λ t. let h = ltb-true u 0xD800 t in unicode_is (below h) x (omega arith))
    (λ f.
    let l = ltb-false u 0xD800 f in
    pick_escape (ltb u 0xDC00)
    (λ t.
    let v = unit_at s (a + 6) in
    pick_escape (ltb v 0xDC00) (λ g. no_escape_lem)
    (λ g.
    pick_escape (ltb v 0xE000) (λ k. pair_is l (ltb-true u 0xDC00 t) (ltb-false v 0xDC00 g) (ltb-true v 0xE000 k) x (unit_at_lem s (a + 6))) (λ k. no_escape_lem)))
    (λ g.
    pick_escape (ltb u 0xE000) (λ t. no_escape_lem)
    (λ h.
    pick_escape (ltb u 0x10000)
    (λ t. let k = ltb-true u 0x10000 t in unicode_is (above (ltb-false u 0xE000 h) (omega arith)) x k) (λ k. no_escape_lem))))

letter_at : (s : List ℕ) (a b : ℕ) → get_or s a 0 ≡ 0x5C → LetterOf (get_or s (a + 1) 0) b → EscapeAt s a (letter_escape b)
unfolding letter_escape
letter_at s a b e no_letter = no_escape_lem
letter_at s a b e (letter_is g) =
    let h = letter_small g in
    let o = encode_one b h.1 in
    let c : json.SpelledChar (0x5C ∷ get_or s (a + 1) 0 ∷ []) (encode b) = rw o (json.letter g) in
    pick_escape (eqb b 0) (λ t. no_escape_lem)
    (λ f.
    escape_is c (below (omega arith))
    (before {i = a} {j = a + 1} (omega arith) e (omega arith) (before {i = a + 1} {j = a + 2} (omega arith) refl h.2 here)) refl (omega arith) (omega arith)
    (rw o (omega arith)))

-- consumes: what is found behind a backslash is a character of the grammar
pub escape_at_lem : (s : List ℕ) (a : ℕ) → get_or s a 0 ≡ 0x5C → EscapeAt s a (escape_at s a)
unfolding escape_at
escape_at_lem s a e =
    pick_escape (eqb (get_or s (a + 1) 0) 0x75) (λ t. unicode_at_lem s a (unit_at s a) (unit_at_lem s a))
    (λ f. letter_at s a (unescaped_letter (get_or s (a + 1) 0)) e (of_letter (get_or s (a + 1) 0)))

-- accepts: each of the grammar's characters that begin with a backslash is found
pub escape_letter_lem : {s : List ℕ} {a e c b : ℕ} → json.Letter c b → Span s a (0x5C ∷ c ∷ []) e → escape_at s a ≡ escape 2 b
unfolding escape_at letter_escape
escape_letter_lem {s} {a} {e} {c} {b} g r =
    let h = letter_small g in
    let q : get_or s (a + 1) 0 ≡ c = nth 1 r (omega arith) in
    rw (q, ne_eqb c 0x75 (λ x. omega arith), letter_of g, ne_eqb b 0 (λ x. omega arith))

pub escape_unicode : {s l : List ℕ} {a e u : ℕ} → json.Unit l u → Scalar u → Span s a l e → escape_at s a ≡ escape 6 u
unfolding escape_at unicode_at
escape_unicode {s} {a = a} {u = u} g k r = rw (u_follows g r, unit_accepts g r) (go k (unit_most g))
  where
    go : Scalar u → u < 0x10000 → unicode_at s a u ≡ escape 6 u
    go (below h) m = rw (lt-ltb u 0xD800 h)
    go (above h n) m = rw (le-ltb u 0xD800 (omega arith), le-ltb u 0xDC00 (omega arith), le-ltb u 0xE000 h, lt-ltb u 0x10000 m)

pub escape_pair : {s l m : List ℕ} {a e u v : ℕ} → json.Unit l u → 0xD800 ≤ u → u ≤ 0xDBFF → json.Unit m v → 0xDC00 ≤ v → v ≤ 0xDFFF → Span s a (l ++ m) e
    → escape_at s a ≡ escape 12 (json.paired u v)
unfolding escape_at unicode_at pair_of
escape_pair {s} {l} {m} {a} {e} {u} {v} p h i q j k r =
    let c = cut_at l 6 (unit_length p) r in
    rw (
      u_follows p c.0,
      unit_accepts p c.0,
      le-ltb u 0xD800 h,
      lt-ltb u 0xDC00 (omega arith),
      unit_accepts q c.1,
      le-ltb v 0xDC00 j,
      lt-ltb v 0xE000 (omega arith),
    )

-- ---- where an escape ends

-- an escape ends within the input
pub escape_within : (s : List ℕ) (a : ℕ) → get_or s a 0 ≡ 0x5C → a < length s → a + (escape_at s a).width ≤ length s
escape_within s a e h = go (escape_at_lem s a e)
  where
    go : {x : Escape} → EscapeAt s a x → a + x.width ≤ length s
    go (escape_is g n r i j k m) = omega (arith, span_fits r, i, h)
    go no_escape_lem = omega arith

pub width_fits : (s : List ℕ) (i : ℕ) {e : Escape} → length s < 2 ^ 64 → i < length s → get_or s i 0 ≡ 0x5C → e ≡ escape_at s i → Fits w64 (i + e.width)
width_fits s i l h q e = let w = escape_within s i q h in rw e (omega arith)

-- past the end there is none
pub escape_none : (s : List ℕ) (a : ℕ) → length s ≤ a → escape_at s a ≡ no_escape
unfolding escape_at letter_escape unescaped_letter
escape_none s a h = rw (byte_none s (a + 1) (omega arith))
