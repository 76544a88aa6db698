-- One sequence: `width_at` gives a width exactly where a `Char` of that length stands, and 0 elsewhere.
-- The rows of the grammar, carried to places by `Span`.
use Prim.Native.Nat.{ℕ, ◌+◌, ◌-◌, ◌<◌, ◌≤◌}
use mathlib.Core.Path.{◌≡◌, refl, sym, ap, ◌∙◌}
use mathlib.Core.List.{List, [], ◌∷◌}
use mathlib.Core.Logic.{dite}
use native.Mathlib.Nat.{add-zero, add_assoc}
use native.Mathlib.Omega.{arith}
use native.Mathlib.Decide.{dec_lt, ℕ_discrete}
use lib.ListN.{length, get_or, drop, length-drop}
use lib.Seq.{get_or-drop}
use borrow.Author.Tests.{lt-ltb, le-ltb}
use Rattle.scan.specs.inner.Span.{here, step, Span}
use Rattle.scan.proofs.Step.{byte_none}
use Rattle.scan.proofs.SpanLaws.{from_span, span_fits}
use Rattle.utf8.specs.Utf8.{octet, Char, one, two, three_E0, three_E1, three_ED, three_EE, four_F0, four_F1, four_F4}
use Rattle.utf8.specs.inner.Width.{width_of, width_at}
use Rattle.utf8.proofs.RowLaws.{at_one, width_first, char_width, Row, bad, row_one, row_two, row_three, row_four, row}

-- ---- from bytes to places

-- a byte that is not 0 stands within the input
present : (s : List ℕ) (i : ℕ) → 0 < get_or s i 0 → i < length s
present s i h = dite (dec_lt i (length s)) (λ l. l) (λ n. absurd (omega (arith, byte_none s i (omega (arith, n)))))

-- one byte before a span
before : {s l : List ℕ} {i j e : ℕ} → j ≡ i + 1 → i < length s → Span s j l e → Span s i (get_or s i 0 ∷ l) e
before q h p = step h refl (rw q at p)

-- the bytes of a row are the span from the place on
spanned : (s : List ℕ) (a : ℕ) {w : ℕ} → a < length s → Row (get_or s a 0) (get_or s (a + 1) 0) (get_or s (a + 2) 0) (get_or s (a + 3) 0) w → (w ≡ 0 → ⊥)
    → (c : List ℕ) × Char c × Span s a c (a + w) × (length c ≡ w)
spanned s a h bad n = absurd (n refl)
spanned s a h (row_one g) n = (get_or s a 0 ∷ [], g, before (omega arith) h here, refl)
spanned s a h (row_two p g) n =
    (get_or s a 0 ∷ get_or s (a + 1) 0 ∷ [], g, before (omega arith) h (before {i = a + 1} (omega arith) (present s (a + 1) p) here), refl)
spanned s a h (row_three p q g) n = (
  get_or s a 0 ∷ get_or s (a + 1) 0 ∷ get_or s (a + 2) 0 ∷ [],
  g,
  before (omega arith) h (before {i = a + 1} (omega arith) (present s (a + 1) p) (before {i = a + 2} (omega arith) (present s (a + 2) q) here)),
  refl,
)
spanned s a h (row_four p q r g) n = (
  get_or s a 0 ∷ get_or s (a + 1) 0 ∷ get_or s (a + 2) 0 ∷ get_or s (a + 3) 0 ∷ [],
  g,
  before (omega arith) h (before {i = a + 1} (omega arith) (present s (a + 1) p)
      (before {i = a + 2} (omega arith) (present s (a + 2) q) (before {i = a + 3} (omega arith) (present s (a + 3) r) here))),
  refl,
)

-- ---- the laws of one sequence at a place

-- the width is that of the four bytes at the place
pub width_here : (s : List ℕ) (a : ℕ) → a < length s
    → width_at s a ≡ width_of (get_or s a 0) (get_or s (a + 1) 0) (get_or s (a + 2) 0) (get_or s (a + 3) 0)
unfolding width_at
width_here s a h = simp (lt-ltb a (length s) h)

-- at or past the end there is none
pub width_none : (s : List ℕ) (a : ℕ) → length s ≤ a → width_at s a ≡ 0
unfolding width_at
width_none s a h = simp (le-ltb a (length s) h)

-- where a width is, the place is within the input
pub width_place : (s : List ℕ) (a : ℕ) → (width_at s a ≡ 0 → ⊥) → a < length s
width_place s a n = dite (dec_lt a (length s)) (λ h. h) (λ m. absurd (n (width_none s a (omega (arith, m)))))

-- a character takes 1 to 4 bytes
pub char_length : {c : List ℕ} → Char c → (1 ≤ length c) × (length c ≤ 4)
char_length (one p) = (omega arith, omega arith)
char_length (two p q) = (omega arith, omega arith)
char_length (three_E0 p q) = (omega arith, omega arith)
char_length (three_E1 p q r) = (omega arith, omega arith)
char_length (three_ED p q) = (omega arith, omega arith)
char_length (three_EE p q r) = (omega arith, omega arith)
char_length (four_F0 p q r) = (omega arith, omega arith)
char_length (four_F1 p q r t) = (omega arith, omega arith)
char_length (four_F4 p q r) = (omega arith, omega arith)

-- accepts: where a character stands, its length is the width
pub width_accepts : {s c : List ℕ} {a e : ℕ} → Char c → Span s a c e → width_at s a ≡ length c
width_accepts {s} {c} {a} {e} g p =
    let h : a < length s = omega (arith, span_fits p, char_length g) in
    let q : width_first (drop a s) ≡ width_of (get_or s a 0) (get_or s (a + 1) 0) (get_or s (a + 2) 0) (get_or s (a + 3) 0) = simp (get_or-drop, add-zero) in
    width_here s a h ∙ sym q ∙ ap (λ (l : List ℕ). width_first l) (from_span p) ∙ char_width g (drop e s)

-- consumes: where a width is, a character of that length stands
pub width_consumes : (s : List ℕ) (a : ℕ) → (width_at s a ≡ 0 → ⊥) → (c : List ℕ) × Char c × Span s a c (a + width_at s a) × (length c ≡ width_at s a)
width_consumes s a n =
    let h = width_place s a n in
    let q = row (get_or s a 0) (get_or s (a + 1) 0) (get_or s (a + 2) 0) (get_or s (a + 3) 0) in
    spanned s a h (rw (← width_here s a h) at q) n

-- the width is at most 4
pub width_most : (s : List ℕ) (a : ℕ) → width_at s a ≤ 4
width_most s a =
    dite (ℕ_discrete (width_at s a) 0) (λ e. omega arith)
    (λ n. let u = width_consumes s a n in omega (arith, char_length u.1))

-- the width is at most what is left of the input
pub width_left : (s : List ℕ) (a : ℕ) → width_at s a ≤ length s - a
width_left s a =
    dite (ℕ_discrete (width_at s a) 0) (λ e. omega arith)
    (λ n. let u = width_consumes s a n in omega (arith, span_fits u.2))

-- where a width is, its sequence ends within the input
pub width_within : (s : List ℕ) (a : ℕ) → (width_at s a ≡ 0 → ⊥) → a + width_at s a ≤ length s
width_within s a n = omega (arith, width_left s a, width_place s a n)

-- an ASCII byte is a sequence of its own
pub width_ascii : (s : List ℕ) (a : ℕ) → a < length s → get_or s a 0 < 0x80 → width_at s a ≡ 1
width_ascii s a h l = width_here s a h ∙ at_one (get_or s a 0) _ _ _ (octet (omega arith) (omega arith))

-- the width in a part that starts at a place is the width there in the whole
pub width_drop : (s : List ℕ) (a i : ℕ) → width_at (drop a s) i ≡ width_at s (a + i)
width_drop s a i =
    dite (dec_lt (a + i) (length s))
    (λ h. rw (width_here (drop a s) i (simp length-drop (omega arith)), width_here s (a + i) h) (simp (get_or-drop, ← add_assoc)))
    (λ n. width_none (drop a s) i (simp length-drop (omega (arith, n))) ∙ sym (width_none s (a + i) (omega (arith, n))))
