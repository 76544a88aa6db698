-- A text has no fault exactly if it is made of bare bytes and escapes and is UTF-8: `no_fault` and `faultless`.
-- One step law for each test of the definition at a place; both directions follow them.
use Prim.Native.Nat.{ℕ, zero, suc, ◌+◌, ◌-◌, ◌<◌, ◌≤◌}
use mathlib.Core.Path.{◌≡◌, refl, sym, ap, ◌∙◌}
use mathlib.Core.Bool.{Bool, true, false}
use mathlib.Core.List.{List, [], ◌∷◌, ◌++◌}
use mathlib.Core.Logic.{dite}
use native.Mathlib.Nat.{add-zero, add_assoc}
use native.Mathlib.Omega.{arith}
use native.Mathlib.Decide.{dec_lt, ℕ_discrete}
use lib.ListN.{length, get_or, drop, length-append}
use lib.Seq.{get_or-drop, drop-drop, drop-append_seam}
use lib.Dec.{ltb, eqb}
use borrow.Author.Tests.{lt-ltb, le-ltb, eq-eqb, ne_eqb}
use Rattle.scan.specs.Choice.{pick}
use Rattle.scan.specs.Bytes.{All, also}
use Rattle.scan.proofs.Step.{rest_none, rest_more, byte_none, false_true}
use Rattle.scan.proofs.SpanLaws.{from_span, to_span, nth}
use Rattle.utf8.specs.Utf8.{octet, Char, one, Utf8, char}
use Rattle.utf8.specs.inner.Width.{width_at}
use Rattle.utf8.proofs.WidthLaws.{width_here, width_consumes, width_accepts, char_length}
use Rattle.utf8.proofs.Laws.{utf8_rest, utf8_char}
use Rattle.escape.specs.inner.Quoted.{Quoted, none, bare, escape, NsonBare, nson_bare, NsonLetter, letter_n, letter_quote, letter_backslash}
use Rattle.escape.proofs.TextLaws.{High, Side, ascii, above, char_side}
use Rattle.nsonstring.specs.Counted.{is_letter, fault_from, fault_in}

-- ---- the letters

-- the test and the statement
letter_test : {c : ℕ} → NsonLetter c → is_letter c ≡ true
unfolding is_letter
letter_test letter_n = refl
letter_test letter_quote = refl
letter_test letter_backslash = refl

pub test_letter : (c : ℕ) → is_letter c ≡ true → NsonLetter c
unfolding is_letter
test_letter c t =
    dite (ℕ_discrete c 0x6E) (λ e. rw e letter_n)
    (λ n. dite (ℕ_discrete c 0x22) (λ e. rw e letter_quote)
    (λ m. dite (ℕ_discrete c 0x5C) (λ e. rw e letter_backslash)
    (λ k. absurd (false_true (rw (ne_eqb c 0x6E n, ne_eqb c 0x22 m, ne_eqb c 0x5C k) at t)))))

-- a letter stands within the input
pub letter_place : (s : List ℕ) (i : ℕ) → is_letter (get_or s i 0) ≡ true → i < length s
unfolding is_letter
letter_place s i t = dite (dec_lt i (length s)) (λ h. h) (λ n. absurd (false_true (rw (byte_none s i (omega (arith, n))) at t)))

-- ---- one step at a place

-- the bytes that are still to pass are dropped
skip : (k : ℕ) (l : List ℕ) → fault_from k l ≡ fault_in (drop k l)
unfolding fault_from fault_in
skip zero [] = refl
skip zero (b ∷ l) = refl
skip (suc k) [] = refl
skip (suc k) (b ∷ l) = skip k l

first : (s : List ℕ) (i : ℕ) → i < length s
    → fault_in (drop i s)
    ≡ pick (eqb (get_or s i 0) 0x22) 13
    (pick (ltb (get_or s i 0) 0x20) 14
    (pick (eqb (get_or s i 0) 0x5C) (pick (is_letter (get_or s (i + 1) 0)) (fault_from 1 (drop (i + 1) s)) 14)
    (pick (eqb (width_at s i) 0) 5 (fault_from (width_at s i - 1) (drop (i + 1) s)))))
unfolding fault_from fault_in
first s i h = rw (rest_more s i h, width_here s i h) (simp (get_or-drop, add-zero, add_assoc))

-- past the end there is no fault
pub fault_end : (s : List ℕ) (i : ℕ) → length s ≤ i → fault_in (drop i s) ≡ 0
unfolding fault_from fault_in
fault_end s i h = rw (rest_none s i h)

pub fault_quote : (s : List ℕ) (i : ℕ) → i < length s → get_or s i 0 ≡ 0x22 → fault_in (drop i s) ≡ 13
fault_quote s i h e = first s i h ∙ rw (eq-eqb (get_or s i 0) 0x22 e)

pub fault_control : (s : List ℕ) (i : ℕ) → i < length s → get_or s i 0 < 0x20 → fault_in (drop i s) ≡ 14
fault_control s i h e = first s i h ∙ rw (ne_eqb (get_or s i 0) 0x22 (λ q. omega arith), lt-ltb (get_or s i 0) 0x20 e)

module _ (s : List ℕ) (i : ℕ) (h : i < length s) (e : get_or s i 0 ≡ 0x5C) where
  slash : fault_in (drop i s) ≡ pick (is_letter (get_or s (i + 1) 0)) (fault_from 1 (drop (i + 1) s)) 14
  slash = first s i h ∙ rw (ne_eqb (get_or s i 0) 0x22 (λ q. omega arith), le-ltb (get_or s i 0) 0x20 (omega arith), eq-eqb (get_or s i 0) 0x5C e)

  pub fault_letter : is_letter (get_or s (i + 1) 0) ≡ true → fault_in (drop i s) ≡ fault_in (drop (i + 2) s)
  fault_letter t =
      let k : i + 1 + 1 ≡ i + 2 = omega arith in
      slash ∙ rw t (skip 1 (drop (i + 1) s) ∙ ap fault_in (drop-drop 1 (i + 1) s ∙ ap (λ (j : ℕ). drop j s) k))

  pub fault_escape : is_letter (get_or s (i + 1) 0) ≡ false → fault_in (drop i s) ≡ 14
  fault_escape t = slash ∙ rw t

module _ (s : List ℕ) (i : ℕ) (h : i < length s) (a : get_or s i 0 ≡ 0x22 → ⊥) (b : 0x20 ≤ get_or s i 0) (c : get_or s i 0 ≡ 0x5C → ⊥) where
  other : fault_in (drop i s) ≡ pick (eqb (width_at s i) 0) 5 (fault_from (width_at s i - 1) (drop (i + 1) s))
  other = first s i h ∙ rw (ne_eqb (get_or s i 0) 0x22 a, le-ltb (get_or s i 0) 0x20 b, ne_eqb (get_or s i 0) 0x5C c)

  pub fault_ill : width_at s i ≡ 0 → fault_in (drop i s) ≡ 5
  fault_ill z = other ∙ rw (eq-eqb (width_at s i) 0 z)

  pub fault_width : (width_at s i ≡ 0 → ⊥) → fault_in (drop i s) ≡ fault_in (drop (i + width_at s i) s)
  fault_width n =
      let w = width_at s i in
      let k : i + 1 + (w - 1) ≡ i + w = omega arith in
      other ∙ rw (ne_eqb w 0 n) (skip (w - 1) (drop (i + 1) s) ∙ ap fault_in (drop-drop (w - 1) (i + 1) s ∙ ap (λ (j : ℕ). drop j s) k))

-- ---- no fault: then the text is what NSON has between quotes

-- the bytes of a character that is no escape, before a quoted text
high_quoted : {c l : List ℕ} → All High c → Quoted NsonBare NsonLetter l → Quoted NsonBare NsonLetter (c ++ l)
high_quoted All.none q = q
high_quoted (also {b = b} h r) q = bare (nson_bare {b = b} (omega arith) (λ e. omega arith) (λ e. omega arith)) (high_quoted r q)

side_quoted : {c l : List ℕ} → Side c → (b : ℕ) → get_or c 0 0 ≡ b → (b ≡ 0x22 → ⊥) → 0x20 ≤ b → (b ≡ 0x5C → ⊥) → Quoted NsonBare NsonLetter l → Quoted NsonBare NsonLetter (c ++ l)
side_quoted (ascii h) b e n m k q = rw e (bare (nson_bare m n k) q)
side_quoted (above h) b e n m k q = high_quoted h q

ascii_char : {b : ℕ} → b < 0x80 → Char (b ∷ [])
ascii_char {b} h = one (octet {b = b} (omega arith) (omega arith))

letter_ascii : {c : ℕ} → NsonLetter c → c < 0x80
letter_ascii letter_n = omega arith
letter_ascii letter_quote = omega arith
letter_ascii letter_backslash = omega arith

-- both at once, from a place on
pub record Spelled (l : List ℕ) : Type 0 where
  pub quoted : Quoted NsonBare NsonLetter l
  pub utf8 : Utf8 l

-- an escape before a rest
slash_spelled : (s : List ℕ) (i : ℕ) → i < length s → get_or s i 0 ≡ 0x5C → is_letter (get_or s (i + 1) 0) ≡ true → Spelled (drop (i + 2) s) → Spelled (drop i s)
slash_spelled s i h e t r =
    let c = get_or s (i + 1) 0 in
    let p = letter_place s (i + 1) t in
    let g = test_letter c t in
    let k : i + 1 + 1 ≡ i + 2 = omega arith in
    let m : drop (i + 1) s ≡ c ∷ drop (i + 2) s = rest_more s (i + 1) p ∙ ap (λ (j : ℕ). c ∷ drop j s) k in
    let q : drop i s ≡ 0x5C ∷ (c ∷ drop (i + 2) s) = rest_more s i h ∙ ap (λ (b : ℕ). b ∷ drop (i + 1) s) e ∙ ap (λ (l : List ℕ). 0x5C ∷ l) m in
    rw q (record { quoted = escape g r.quoted; utf8 = char (ascii_char {b = 0x5C} (omega arith)) (char (ascii_char (letter_ascii g)) r.utf8) })

-- any other character before a rest
char_spelled : (s : List ℕ) (i : ℕ) → (get_or s i 0 ≡ 0x22 → ⊥) → 0x20 ≤ get_or s i 0 → (get_or s i 0 ≡ 0x5C → ⊥) → (width_at s i ≡ 0 → ⊥)
    → Spelled (drop (i + width_at s i) s) → Spelled (drop i s)
char_spelled s i a b c n r =
    let w = width_consumes s i n in
    let m = (char_length w.1).0 in
    let f : get_or s i 0 ≡ get_or w.0 0 0 = rw add-zero at (nth 0 w.2 (omega arith)) in
    rw (from_span w.2)
    (record { quoted = side_quoted (char_side w.1) (get_or s i 0) (sym f) a b c r.quoted; utf8 = char w.1 r.utf8 })

-- n is enough for what is left
abbrev Follows : ℕ → List ℕ → Type 0
Follows n s = (i : ℕ) → length s ≤ i + n → fault_in (drop i s) ≡ 0 → Spelled (drop i s)

by_letter : (n : ℕ) (s : List ℕ) (i : ℕ) (t : Bool) → Follows n s → length s ≤ i + suc n → i < length s → get_or s i 0 ≡ 0x5C → is_letter (get_or s (i + 1) 0) ≡ t → fault_in (drop i s) ≡ 0
    → Spelled (drop i s)
by_letter n s i true k h l e t z = slash_spelled s i l e t (k (i + 2) (omega arith) (sym (fault_letter s i l e t) ∙ z))
by_letter n s i false k h l e t z = let q = sym (fault_escape s i l e t) ∙ z in absurd (omega arith)

no_fault_from : (n : ℕ) (s : List ℕ) (i : ℕ) → length s ≤ i + n → fault_in (drop i s) ≡ 0 → Spelled (drop i s)
no_fault_from zero s i h z = rw (rest_none s i (omega arith)) (record { quoted = none; utf8 = Utf8.none })
no_fault_from (suc n) s i h z =
    let b = get_or s i 0 in
    dite (dec_lt i (length s))
    (λ l.
    dite (ℕ_discrete b 0x22) (λ e. let q = sym (fault_quote s i l e) ∙ z in absurd (omega arith))
    (λ a.
    dite (dec_lt b 0x20) (λ e. let q = sym (fault_control s i l e) ∙ z in absurd (omega arith))
    (λ g.
    dite (ℕ_discrete b 0x5C) (λ e. by_letter n s i (is_letter (get_or s (i + 1) 0)) (no_fault_from n s) h l e refl z)
    (λ c.
    let m : 0x20 ≤ b = omega (arith, g) in
    dite (ℕ_discrete (width_at s i) 0) (λ e. let q = sym (fault_ill s i l a m c e) ∙ z in absurd (omega arith))
    (λ e. char_spelled s i a m c e (no_fault_from n s (i + width_at s i) (omega arith) (sym (fault_width s i l a m c e) ∙ z)))))))
    (λ g. rw (rest_none s i (omega (arith, g))) (record { quoted = none; utf8 = Utf8.none }))

-- THE law, one way: a text without a fault is bare bytes and escapes, and UTF-8
pub no_fault : (l : List ℕ) → fault_in l ≡ 0 → Spelled l
no_fault l z = no_fault_from (length l) l 0 (omega arith) z

-- ---- and the other way

-- a character that begins with no quote, no backslash and no control byte is passed whole
fault_char : {c : List ℕ} → Char c → (l : List ℕ) → (get_or (c ++ l) 0 0 ≡ 0x22 → ⊥) → 0x20 ≤ get_or (c ++ l) 0 0 → (get_or (c ++ l) 0 0 ≡ 0x5C → ⊥)
    → fault_in (c ++ l) ≡ fault_in l
fault_char {c} g l n m k =
    let w = width_accepts g (to_span (c ++ l) c l 0 refl) in
    let o = (char_length g).0 in
    let e : 0 + width_at (c ++ l) 0 ≡ length c = omega arith in
    let h : 0 < length (c ++ l) = omega (arith, length-append c l) in
    fault_width (c ++ l) 0 h n m k (λ z. omega arith) ∙ ap (λ (j : ℕ). fault_in (drop j (c ++ l))) e ∙ ap fault_in (drop-append_seam c l)

-- a byte that is no backslash is bare
open_bare : {b : ℕ} {l : List ℕ} → Quoted NsonBare NsonLetter (b ∷ l) → (b ≡ 0x5C → ⊥) → Quoted NsonBare NsonLetter l
open_bare (bare p q) n = q
open_bare (escape p q) n = absurd (n refl)

pass_high : {c : List ℕ} (l : List ℕ) → All High c → Quoted NsonBare NsonLetter (c ++ l) → Quoted NsonBare NsonLetter l
pass_high l All.none q = q
pass_high l (also {b = b} h r) q = pass_high l r (open_bare q (λ e. omega arith))

fault_high : {c : List ℕ} → Char c → All High c → (l : List ℕ) → fault_in (c ++ l) ≡ fault_in l
fault_high g All.none l = refl
fault_high g (also {b = b} h r) l = fault_char g l (λ e. omega arith) (omega arith) (λ e. omega arith)

fault_bare : {b : ℕ} (l : List ℕ) → NsonBare b → b < 0x80 → fault_in (b ∷ l) ≡ fault_in l
fault_bare l (nson_bare x y z) h = fault_char (ascii_char h) l y x z

abbrev Faultless : ℕ → Type 0
Faultless n = (l : List ℕ) → length l ≤ n → Quoted NsonBare NsonLetter l → Utf8 l → fault_in l ≡ 0

by_side : (n : ℕ) → Faultless n → {c : List ℕ} (l : List ℕ) → Side c → Char c → length (c ++ l) ≤ suc n → Quoted NsonBare NsonLetter (c ++ l) → Utf8 l → fault_in (c ++ l) ≡ 0
by_side n k l (ascii h) g m (bare p q) u = fault_bare l p h ∙ k l (omega arith) q u
by_side n k l (ascii h) g m (escape {c = c} {l = rest} p q) u =
    fault_letter (0x5C ∷ c ∷ rest) 0 (omega arith) refl (letter_test p)
    ∙ k rest (omega arith) q (utf8_rest (utf8_char (ascii_char (letter_ascii p))) u)
by_side n k l (above {c = c} h) g m q u = fault_high g h l ∙ k l (omega (arith, length-append c l, (char_length g).0)) (pass_high l h q) u

faultless_from : (n : ℕ) (l : List ℕ) → length l ≤ n → Quoted NsonBare NsonLetter l → Utf8 l → fault_in l ≡ 0
faultless_from zero _ h q Utf8.none = fault_end [] 0 (omega arith)
faultless_from zero _ h q (char {c = c} {l = l} g u) = absurd (omega (arith, length-append c l, (char_length g).0))
faultless_from (suc n) _ h q Utf8.none = fault_end [] 0 (omega arith)
faultless_from (suc n) _ h q (char {l = l} g u) = by_side n (faultless_from n) l (char_side g) g h q u

-- THE law, the other way: bare bytes and escapes that are UTF-8 have no fault
pub faultless : {l : List ℕ} → Quoted NsonBare NsonLetter l → Utf8 l → fault_in l ≡ 0
faultless {l} q u = faultless_from (length l) l (omega arith) q u
