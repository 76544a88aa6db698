-- The decision `is_utf8` says true exactly of the texts of RFC 3629's `UTF8-octets`, and a reader may go sequence by
-- sequence.
-- One step law turns the recursion over bytes into a step over a whole sequence; both directions follow it.
use Prim.Native.Nat.{ℕ, zero, suc, ◌+◌, ◌-◌, ◌<◌, ◌≤◌}
use mathlib.Core.Path.{◌≡◌, refl, sym, ap, ◌∙◌}
use mathlib.Core.Bool.{true, false}
use mathlib.Core.List.{List, [], ◌∷◌, ◌++◌, append_assoc, append-nil}
use mathlib.Core.Logic.{dite, ◌↔◌}
use native.Mathlib.Nat.{add-zero, add_assoc}
use native.Mathlib.Omega.{arith}
use native.Mathlib.Decide.{dec_lt, ℕ_discrete}
use lib.ListN.{length, drop}
use lib.Seq.{get_or-drop, drop-drop, drop-append_seam}
use lib.Dec.{eqb}
use borrow.Author.Tests.{eq-eqb, ne_eqb}
use Rattle.scan.specs.Choice.{pick}
use Rattle.scan.specs.Bytes.{All, none, also, IsBytes}
use Rattle.scan.proofs.Step.{rest_none, rest_more, false_true}
use Rattle.scan.proofs.SpanLaws.{from_span, to_span}
use Rattle.utf8.specs.Utf8.{Octet, octet, Tail, Char, one, two, three_E0, three_E1, three_ED, three_EE, four_F0, four_F1, four_F4, Utf8, char}
use Rattle.utf8.specs.inner.Width.{width_at, sequences, is_utf8}
use Rattle.utf8.proofs.WidthLaws.{width_here, width_place, width_accepts, width_consumes, char_length}

-- ---- the step over a whole sequence

-- the bytes that are still to pass are dropped
skip : (k : ℕ) (l : List ℕ) → sequences k l ≡ is_utf8 (drop k l)
unfolding sequences is_utf8
skip zero [] = refl
skip zero (b ∷ l) = refl
skip (suc k) [] = refl
skip (suc k) (b ∷ l) = skip k l

first : (s : List ℕ) (i : ℕ) → i < length s → is_utf8 (drop i s) ≡ pick (eqb (width_at s i) 0) false (sequences (width_at s i - 1) (drop (i + 1) s))
unfolding sequences is_utf8
first s i h = rw (rest_more s i h, width_here s i h) (simp (get_or-drop, add-zero, add_assoc))

-- past the end nothing is ill-formed
pub rest_end : (s : List ℕ) (i : ℕ) → length s ≤ i → is_utf8 (drop i s) ≡ true
unfolding sequences is_utf8
rest_end s i h = rw (rest_none s i h)

-- where no sequence stands the text is ill-formed
pub rest_stop : (s : List ℕ) (i : ℕ) → i < length s → width_at s i ≡ 0 → is_utf8 (drop i s) ≡ false
rest_stop s i h z = first s i h ∙ rw (eq-eqb (width_at s i) 0 z)

-- a text from a place on is well-formed exactly if it is so from behind the sequence there
pub rest_step : (s : List ℕ) (i : ℕ) → (width_at s i ≡ 0 → ⊥) → is_utf8 (drop i s) ≡ is_utf8 (drop (i + width_at s i) s)
rest_step s i n =
    let w = width_at s i in
    let e : i + 1 + (w - 1) ≡ i + w = omega arith in
    let q = drop-drop (w - 1) (i + 1) s ∙ ap (λ (j : ℕ). drop j s) e in
    first s i (width_place s i n) ∙ rw (ne_eqb w 0 n) (skip (w - 1) (drop (i + 1) s) ∙ ap is_utf8 q)

-- a character before a text
pub rest_char : {c : List ℕ} → Char c → (l : List ℕ) → is_utf8 (c ++ l) ≡ is_utf8 l
rest_char {c} g l =
    let w = width_accepts g (to_span (c ++ l) c l 0 refl) in
    let m = (char_length g).0 in
    let e : 0 + width_at (c ++ l) 0 ≡ length c = omega arith in
    rest_step (c ++ l) 0 (omega arith) ∙ ap (λ (j : ℕ). is_utf8 (drop j (c ++ l))) e ∙ ap is_utf8 (drop-append_seam c l)

-- ---- the theorem

complete : {l : List ℕ} → Utf8 l → is_utf8 l ≡ true
complete Utf8.none = rest_end [] 0 (omega arith)
complete (char {l = l} g u) = rest_char g l ∙ complete u

sound : (n : ℕ) (s : List ℕ) (i : ℕ) → length s ≤ i + n → is_utf8 (drop i s) ≡ true → Utf8 (drop i s)
sound zero s i h t = rw (rest_none s i (omega arith)) Utf8.none
sound (suc n) s i h t =
    dite (dec_lt i (length s))
    (λ l.
    dite (ℕ_discrete (width_at s i) 0) (λ z. absurd (false_true (sym (rest_stop s i l z) ∙ t)))
    (λ m.
    let c = width_consumes s i m in
    rw (from_span c.2) (char c.1 (sound n s (i + width_at s i) (omega arith) (sym (rest_step s i m) ∙ t)))))
    (λ g. rw (rest_none s i (omega (arith, g))) Utf8.none)

-- THE theorem: the decision says true exactly of well-formed UTF-8
pub is_utf8_lem : (l : List ℕ) → (is_utf8 l ≡ true) ↔ Utf8 l
is_utf8_lem l = (sound (length l) l 0 (omega arith), complete)

-- ---- the grammar's own laws

-- behind a text the rest decides
pub rest_text : {a : List ℕ} → Utf8 a → (l : List ℕ) → is_utf8 (a ++ l) ≡ is_utf8 l
rest_text Utf8.none l = refl
rest_text (char {c = c} {l = m} g u) l = ap is_utf8 (append_assoc c m l) ∙ rest_char g (m ++ l) ∙ rest_text u l

-- what stands behind a text in a text is a text
pub utf8_rest : {a b : List ℕ} → Utf8 a → Utf8 (a ++ b) → Utf8 b
utf8_rest {a} {b} u v = (is_utf8_lem b).0 (sym (rest_text u b) ∙ (is_utf8_lem (a ++ b)).1 v)

-- a text behind a text
pub utf8_append : {a b : List ℕ} → Utf8 a → Utf8 b → Utf8 (a ++ b)
utf8_append Utf8.none v = v
utf8_append {b = b} (char {c = c} {l = l} g u) v = rw (append_assoc c l b) (char g (utf8_append u v))

-- one character is a text
pub utf8_char : {c : List ℕ} → Char c → Utf8 c
utf8_char {c} g = rw (append-nil c) at (char g Utf8.none)

-- ASCII is UTF-8
pub utf8_ascii : {l : List ℕ} → All (λ (b : ℕ). b < 0x80) l → Utf8 l
utf8_ascii none = Utf8.none
utf8_ascii (also {b = b} h g) = char (one (octet {b = b} (omega arith) (omega arith))) (utf8_ascii g)

-- ---- the bytes of a text

small : {low high b : ℕ} → Octet low high b → high < 256 → b < 256
small (octet p q) h = omega arith

tail : {b : ℕ} → Tail b → b < 256
tail t = small t (omega arith)

all_append : {P : ℕ → Type 0} {a b : List ℕ} → All P a → All P b → All P (a ++ b)
all_append none v = v
all_append (also p u) v = also p (all_append u v)

char_bytes : {c : List ℕ} → Char c → All (λ (b : ℕ). b < 256) c
char_bytes (one p) = also (small p (omega arith)) none
char_bytes (two p q) = also (small p (omega arith)) (also (tail q) none)
char_bytes (three_E0 p q) = also {b = 0xE0} (omega arith) (also (small p (omega arith)) (also (tail q) none))
char_bytes (three_E1 p q r) = also (small p (omega arith)) (also (tail q) (also (tail r) none))
char_bytes (three_ED p q) = also {b = 0xED} (omega arith) (also (small p (omega arith)) (also (tail q) none))
char_bytes (three_EE p q r) = also (small p (omega arith)) (also (tail q) (also (tail r) none))
char_bytes (four_F0 p q r) = also {b = 0xF0} (omega arith) (also (small p (omega arith)) (also (tail q) (also (tail r) none)))
char_bytes (four_F1 p q r t) = also (small p (omega arith)) (also (tail q) (also (tail r) (also (tail t) none)))
char_bytes (four_F4 p q r) = also {b = 0xF4} (omega arith) (also (small p (omega arith)) (also (tail q) (also (tail r) none)))

-- each byte of a text is below 256
pub utf8_bytes : {l : List ℕ} → Utf8 l → IsBytes l
utf8_bytes Utf8.none = none
utf8_bytes (char g u) = all_append (char_bytes g) (utf8_bytes u)
