-- A row of the grammar has its width, and each width comes from a row: the nine rows of RFC 3629, in its order.
-- One way by a row's bounds; the other by a walk over the cases of `width_of`.
use Prim.Native.Nat.{ℕ, ◌<◌, ◌≤◌}
use mathlib.Core.Path.{◌≡◌, refl, ◌∙◌}
use mathlib.Core.Bool.{Bool, true, false, ◌&&◌}
use mathlib.Core.List.{List, [], ◌∷◌, ◌++◌}
use native.Mathlib.Omega.{arith}
use lib.ListN.{length}
use lib.Dec.{leb, eqb}
use borrow.Author.Tests.{le-leb, lt-leb, ne_eqb, leb-true, eqb-true}
use Rattle.scan.specs.Choice.{pick}
use Rattle.scan.specs.Place.{byte_at, within}
use Rattle.scan.proofs.Step.{false_true, pick_true, pick_by}
use Rattle.utf8.specs.Utf8.{Octet, octet, Tail, Char, one, two, three_E0, three_E1, three_ED, three_EE, four_F0, four_F1, four_F4}
use Rattle.utf8.specs.inner.Width.{is_tail, width_of}

-- ---- a range of bytes as a test

-- a byte of a range passes its test
in_range : {low high b : ℕ} → Octet low high b → within low high b ≡ true
unfolding within
in_range {low} {high} {b} (octet p q) = simp (le-leb low b p, le-leb b high q)

-- a byte past a range does not
pub past : (low high b : ℕ) → low ≤ b → high < b → within low high b ≡ false
unfolding within
past low high b p q = simp (le-leb low b p, lt-leb b high q)

-- nor does one before it
under : (low high b : ℕ) → b < low → within low high b ≡ false
unfolding within
under low high b p = simp (lt-leb low b p)

-- a byte that passes the test is of the range
to_range : (low high b : ℕ) → within low high b ≡ true → Octet low high b
unfolding within
to_range low high b t = let u = pick_true (leb low b) (leb b high) t in octet (leb-true low b u.0) (leb-true b high u.1)

-- ---- the first byte chooses the row

-- the nine rows; where a row has one first byte, the tests on it are computed
module _ (a b c d : ℕ) where
  -- UTF8-1 = %x00-7F
  pub at_one : Octet 0x00 0x7F a → width_of a b c d ≡ 1
  unfolding width_of
  at_one p = simp (in_range p)

  -- UTF8-2 = %xC2-DF UTF8-tail
  pub at_two : Octet 0xC2 0xDF a → width_of a b c d ≡ pick (is_tail b) 2 0
  unfolding width_of
  at_two (octet p q) =
      simp (
        past 0x00 0x7F a (omega arith) (omega arith),
        in_range (octet {b = a} p q),
      )

  -- UTF8-3 = %xE0 %xA0-BF UTF8-tail /
  pub at_E0 : width_of 0xE0 b c d ≡ pick (within 0xA0 0xBF b && is_tail c) 3 0
  unfolding width_of within
  at_E0 = refl

  --          %xE1-EC 2( UTF8-tail ) /
  pub at_E1 : Octet 0xE1 0xEC a → width_of a b c d ≡ pick (is_tail b && is_tail c) 3 0
  unfolding width_of
  at_E1 (octet p q) =
      simp (
        past 0x00 0x7F a (omega arith) (omega arith),
        past 0xC2 0xDF a (omega arith) (omega arith),
        ne_eqb a 0xE0 (omega arith),
        in_range (octet {b = a} p q),
      )

  --          %xED %x80-9F UTF8-tail /
  pub at_ED : width_of 0xED b c d ≡ pick (within 0x80 0x9F b && is_tail c) 3 0
  unfolding width_of within
  at_ED = refl

  --          %xEE-EF 2( UTF8-tail )
  pub at_EE : Octet 0xEE 0xEF a → width_of a b c d ≡ pick (is_tail b && is_tail c) 3 0
  unfolding width_of
  at_EE (octet p q) =
      simp (
        past 0x00 0x7F a (omega arith) (omega arith),
        past 0xC2 0xDF a (omega arith) (omega arith),
        ne_eqb a 0xE0 (omega arith),
        past 0xE1 0xEC a (omega arith) (omega arith),
        ne_eqb a 0xED (omega arith),
        in_range (octet {b = a} p q),
      )

  -- UTF8-4 = %xF0 %x90-BF 2( UTF8-tail ) /
  pub at_F0 : width_of 0xF0 b c d ≡ pick (within 0x90 0xBF b && is_tail c && is_tail d) 4 0
  unfolding width_of within
  at_F0 = refl

  --          %xF1-F3 3( UTF8-tail ) /
  pub at_F1 : Octet 0xF1 0xF3 a → width_of a b c d ≡ pick (is_tail b && is_tail c && is_tail d) 4 0
  unfolding width_of
  at_F1 (octet p q) =
      simp (
        past 0x00 0x7F a (omega arith) (omega arith),
        past 0xC2 0xDF a (omega arith) (omega arith),
        ne_eqb a 0xE0 (omega arith),
        past 0xE1 0xEC a (omega arith) (omega arith),
        ne_eqb a 0xED (omega arith),
        past 0xEE 0xEF a (omega arith) (omega arith),
        ne_eqb a 0xF0 (omega arith),
        in_range (octet {b = a} p q),
      )

  --          %xF4 %x80-8F 2( UTF8-tail )
  pub at_F4 : width_of 0xF4 b c d ≡ pick (within 0x80 0x8F b && is_tail c && is_tail d) 4 0
  unfolding width_of within
  at_F4 = refl

  -- no row begins with 80 to C1
  pub at_low : 0x80 ≤ a → a < 0xC2 → width_of a b c d ≡ 0
  unfolding width_of
  at_low p q =
      simp (
        past 0x00 0x7F a (omega arith) (omega arith),
        under 0xC2 0xDF a (omega arith),
        ne_eqb a 0xE0 (omega arith),
        under 0xE1 0xEC a (omega arith),
        ne_eqb a 0xED (omega arith),
        under 0xEE 0xEF a (omega arith),
        ne_eqb a 0xF0 (omega arith),
        under 0xF1 0xF3 a (omega arith),
        ne_eqb a 0xF4 (omega arith),
      )

  -- nor with F5 or more
  pub at_high : 0xF5 ≤ a → width_of a b c d ≡ 0
  unfolding width_of
  at_high p =
      simp (
        past 0x00 0x7F a (omega arith) (omega arith),
        past 0xC2 0xDF a (omega arith) (omega arith),
        ne_eqb a 0xE0 (omega arith),
        past 0xE1 0xEC a (omega arith) (omega arith),
        ne_eqb a 0xED (omega arith),
        past 0xEE 0xEF a (omega arith) (omega arith),
        ne_eqb a 0xF0 (omega arith),
        past 0xF1 0xF3 a (omega arith) (omega arith),
        ne_eqb a 0xF4 (omega arith),
      )

pub ruleset rows = (at_one, at_two, at_E0, at_E1, at_ED, at_EE, at_F0, at_F1, at_F4, at_low, at_high, octet)

-- ---- accepts: each row of the grammar has its width

-- the width of the four bytes that a text begins with
abbrev pub width_first : List ℕ → ℕ
width_first l = width_of (byte_at l 0) (byte_at l 1) (byte_at l 2) (byte_at l 3)

-- a character before anything has its length as the width
pub char_width : {l : List ℕ} → Char l → (r : List ℕ) → width_first (l ++ r) ≡ length l
char_width (one {a = a} p) r = at_one a _ _ _ p
char_width (two {a = a} {b = b} p t) r = at_two a b _ _ p ∙ simp (in_range t)
char_width (three_E0 {b = b} {c = c} t u) r = at_E0 0 b c _ ∙ simp (in_range t, in_range u)
char_width (three_E1 {a = a} {b = b} {c = c} p t u) r = at_E1 a b c _ p ∙ simp (in_range t, in_range u)
char_width (three_ED {b = b} {c = c} t u) r = at_ED 0 b c _ ∙ simp (in_range t, in_range u)
char_width (three_EE {a = a} {b = b} {c = c} p t u) r = at_EE a b c _ p ∙ simp (in_range t, in_range u)
char_width (four_F0 {b = b} {c = c} {d = d} t u v) r = at_F0 0 b c d ∙ simp (in_range t, in_range u, in_range v)
char_width (four_F1 {a = a} {b = b} {c = c} {d = d} p t u v) r = at_F1 a b c d p ∙ simp (in_range t, in_range u, in_range v)
char_width (four_F4 {b = b} {c = c} {d = d} t u v) r = at_F4 0 b c d ∙ simp (in_range t, in_range u, in_range v)

-- ---- consumes: each width comes from a row of the grammar

-- what a width says of the bytes a, b, c, d; the bytes behind the first are not 0
pub data Row (a b c d : ℕ) : ℕ → Type 0 where
  bad : Row a b c d 0
  row_one : Char (a ∷ []) → Row a b c d 1
  row_two : 0 < b → Char (a ∷ b ∷ []) → Row a b c d 2
  row_three : 0 < b → 0 < c → Char (a ∷ b ∷ c ∷ []) → Row a b c d 3
  row_four : 0 < b → 0 < c → 0 < d → Char (a ∷ b ∷ c ∷ d ∷ []) → Row a b c d 4

both : (t u : Bool) → (t && u) ≡ true → (t ≡ true) × (u ≡ true)
both true u e = (refl, e)
both false u e = absurd (false_true e)

positive : {low high x : ℕ} → 0 < low → Octet low high x → 0 < x
positive h (octet p q) = omega arith

module _ (a b c d : ℕ) where
  pick_row : (t : Bool) {x y : ℕ} → (t ≡ true → Row a b c d x) → (t ≡ false → Row a b c d y) → Row a b c d (pick t x y)
  pick_row t f g = pick_by (Row a b c d) t f g

  -- what a row of two, three or four asks of the bytes behind its first
  two_row : (Tail b → Char (a ∷ b ∷ [])) → Row a b c d (pick (is_tail b) 2 0)
  two_row f = pick_row (is_tail b) (λ t. let p = to_range 0x80 0xBF b t in row_two (positive (omega arith) p) (f p)) (λ n. bad)

  three_row : (low high : ℕ) → 0 < low → (Octet low high b → Tail c → Char (a ∷ b ∷ c ∷ []))
      → Row a b c d (pick (within low high b && is_tail c) 3 0)
  three_row low high h f =
      pick_row (within low high b && is_tail c)
      (λ t.
      let e = both (within low high b) (is_tail c) t in
      let p = to_range low high b e.0 in
      let q = to_range 0x80 0xBF c e.1 in
      row_three (positive h p) (positive (omega arith) q) (f p q)) (λ n. bad)

  four_row : (low high : ℕ) → 0 < low → (Octet low high b → Tail c → Tail d → Char (a ∷ b ∷ c ∷ d ∷ []))
      → Row a b c d (pick (within low high b && is_tail c && is_tail d) 4 0)
  four_row low high h f =
      pick_row (within low high b && is_tail c && is_tail d)
      (λ t.
      let g = both (within low high b && is_tail c) (is_tail d) t in
      let e = both (within low high b) (is_tail c) g.0 in
      let p = to_range low high b e.0 in
      let q = to_range 0x80 0xBF c e.1 in
      let r = to_range 0x80 0xBF d g.1 in
      row_four (positive h p) (positive (omega arith) q) (positive (omega arith) r) (f p q r)) (λ n. bad)

  -- the width of any four bytes comes from a row, or is 0
  pub row : Row a b c d (width_of a b c d)
  unfolding width_of
  row =
      pick_row (within 0x00 0x7F a) (λ t. row_one (one (to_range 0x00 0x7F a t)))
      (λ n.
      pick_row (within 0xC2 0xDF a) (λ t. two_row (λ p. two (to_range 0xC2 0xDF a t) p))
      (λ n.
      pick_row (eqb a 0xE0) (λ t. three_row 0xA0 0xBF (omega arith) (λ p q. rw (eqb-true a 0xE0 t) (three_E0 p q)))
      (λ n.
      pick_row (within 0xE1 0xEC a) (λ t. three_row 0x80 0xBF (omega arith) (λ p q. three_E1 (to_range 0xE1 0xEC a t) p q))
      (λ n.
      pick_row (eqb a 0xED) (λ t. three_row 0x80 0x9F (omega arith) (λ p q. rw (eqb-true a 0xED t) (three_ED p q)))
      (λ n.
      pick_row (within 0xEE 0xEF a) (λ t. three_row 0x80 0xBF (omega arith) (λ p q. three_EE (to_range 0xEE 0xEF a t) p q))
      (λ n.
      pick_row (eqb a 0xF0) (λ t. four_row 0x90 0xBF (omega arith) (λ p q r. rw (eqb-true a 0xF0 t) (four_F0 p q r)))
      (λ n.
      pick_row (within 0xF1 0xF3 a) (λ t. four_row 0x80 0xBF (omega arith) (λ p q r. four_F1 (to_range 0xF1 0xF3 a t) p q r))
      (λ n.
      pick_row (eqb a 0xF4) (λ t. four_row 0x80 0x8F (omega arith) (λ p q r. rw (eqb-true a 0xF4 t) (four_F4 p q r))) (λ n. bad)))))))))
