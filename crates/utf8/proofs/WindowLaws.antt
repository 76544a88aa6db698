-- The fast pass is right where it says yes: if every byte up to a place fits behind the three before it, and no tail is
-- asked for there, the text is well-formed up to the place (`reach`). Nothing is shown of bytes that misfit.
-- The windows are read as a list (`Fit`); the first byte of a sequence says how many tails are asked for, and so stand
-- there; behind the last of them no tail is asked for (`Clean`), and the next sequence begins.
use Prim.Native.Nat.{ℕ, zero, suc, ◌+◌, ◌-◌, ◌/◌, ◌<◌, ◌≤◌}
use mathlib.Core.Path.{◌≡◌, refl}
use mathlib.Core.List.{List, [], ◌∷◌}
use mathlib.Core.Logic.{dite}
use native.Mathlib.Numerals.{unary_clauses}
use native.Mathlib.Omega.{arith}
use native.Mathlib.Decide.{dec_lt, ℕ_discrete}
use lib.ListN.{length, get_or, take}
use Rattle.utf8.specs.Utf8.{octet, Tail, Char, one, two, three_E0, three_E1, three_ED, three_EE, four_F0, four_F1, four_F4, Utf8, char}
use Rattle.utf8.specs.inner.Windows.{WellTo, Fits, Fitting, padded}

-- ---- bytes that fit are made of characters

-- no tail is asked for behind a, b, c
pub data Clean (a b c : ℕ) : Type 0 where
  clean : a < 0xF0 → b < 0xE0 → c < 0xC0 → Clean a b c

-- behind a, b, c each byte of a list fits, and no tail is asked for behind the last
data Fit : ℕ → ℕ → ℕ → List ℕ → Type 0 where
  done : {a b c : ℕ} → Clean a b c → Fit a b c []
  more : {a b c d : ℕ} {l : List ℕ} → Fits a b c d → Fit b c d l → Fit a b c (d ∷ l)

-- a tail is asked for, and so one stands there
data Tailed (a b c : ℕ) : List ℕ → Type 0 where
  tailed : {d : ℕ} {l : List ℕ} → Fits a b c d → Tail d → Fit b c d l → Tailed a b c (d ∷ l)

tail_next : {a b c : ℕ} {l : List ℕ} → 1 ≤ c / 192 + b / 224 + a / 240 → Fit a b c l → Tailed a b c l
tail_next h (done (clean p q r)) = absurd (omega arith)
tail_next h (more {d = d} f g) = tailed f (octet {b = d} (omega (arith, f.level)) (omega (arith, f.level))) g

module _ (d e : ℕ) where
  -- a first byte of three, by what its second byte must be
  three : (i : ℕ) → 0xE0 ≤ d → d < 0xF0 → (d ≡ 0xE0 → 0xA0 ≤ e) → (d ≡ 0xED → e ≤ 0x9F) → Tail e → Tail i → Char (d ∷ e ∷ i ∷ [])
  three i p q f g (octet r t) u =
      dite (ℕ_discrete d 0xE0) (λ x. rw x (three_E0 (octet (f x) t) u))
      (λ n.
      dite (ℕ_discrete d 0xED) (λ x. rw x (three_ED (octet r (g x)) u))
      (λ m.
      dite (dec_lt d 0xED) (λ l. three_E1 (octet (omega (arith, n)) (omega arith)) (octet r t) u)
      (λ k. three_EE (octet (omega (arith, k, m)) (omega arith)) (octet r t) u)))

  -- a first byte of four
  four : (i j : ℕ) → 0xF0 ≤ d → d < 0xF5 → (d ≡ 0xF0 → 0x90 ≤ e) → (d ≡ 0xF4 → e ≤ 0x8F) → Tail e → Tail i → Tail j → Char (d ∷ e ∷ i ∷ j ∷ [])
  four i j p q f g (octet r t) u v =
      dite (ℕ_discrete d 0xF0) (λ x. rw x (four_F0 (octet (f x) t) u v))
      (λ n.
      dite (ℕ_discrete d 0xF4) (λ x. rw x (four_F4 (octet r (g x)) u v))
      (λ m. four_F1 (octet (omega (arith, n)) (omega (arith, m))) (octet r t) u v))

-- lists of less than n bytes that fit behind whole characters are well-formed
abbrev Below : ℕ → Type 0
Below n = (a b c : ℕ) (l : List ℕ) → length l < n → Clean a b c → Fit a b c l → Utf8 l

-- one character more, by its first byte d
module _ (n : ℕ) (on : Below n) (d : ℕ) where
  on_two : {b c : ℕ} {l : List ℕ} → c < 0xC0 → 0xC2 ≤ d → d < 0xE0 → length l < n → Tailed b c d l → Utf8 (d ∷ l)
  on_two {b} {c} k p q h (tailed {d = e} {l = r} f (octet u v) g) =
      char (two (octet p (omega arith)) (octet u v)) (on c d e r (omega arith) (clean (omega arith) q (omega arith)) g)

  end_three : {c e : ℕ} {l : List ℕ} → 0xE0 ≤ d → d < 0xF0 → (d ≡ 0xE0 → 0xA0 ≤ e) → (d ≡ 0xED → e ≤ 0x9F) → Tail e → length l < n → Tailed c d e l
      → Utf8 (d ∷ e ∷ l)
  end_three {c} {e} p q x y (octet s t) h (tailed {d = i} {l = r} f (octet u v) g) =
      char (three d e i p q x y (octet s t) (octet u v)) (on d e i r (omega arith) (clean q (omega arith) (omega arith)) g)

  on_three : {b c : ℕ} {l : List ℕ} → 0xE0 ≤ d → d < 0xF0 → length l < n → Tailed b c d l → Utf8 (d ∷ l)
  on_three p q h (tailed f t g) = end_three p q f.behind_e0 f.behindED t (omega arith) (tail_next (omega arith) g)

  last_four : {e i : ℕ} {l : List ℕ} → 0xF0 ≤ d → d < 0xF5 → (d ≡ 0xF0 → 0x90 ≤ e) → (d ≡ 0xF4 → e ≤ 0x8F) → Tail e → Tail i → length l < n
      → Tailed d e i l → Utf8 (d ∷ e ∷ i ∷ l)
  last_four {e} {i} p q x y (octet s t) (octet o m) h (tailed {d = j} {l = r} f (octet u v) g) =
      char (four d e i j p q x y (octet s t) (octet o m) (octet u v)) (on e i j r (omega arith) (clean (omega arith) (omega arith) (omega arith)) g)

  end_four : {c e : ℕ} {l : List ℕ} → 0xF0 ≤ d → d < 0xF5 → (d ≡ 0xF0 → 0x90 ≤ e) → (d ≡ 0xF4 → e ≤ 0x8F) → Tail e → length l < n → Tailed c d e l
      → Utf8 (d ∷ e ∷ l)
  end_four p q x y s h (tailed f t g) = last_four p q x y s t (omega arith) (tail_next (omega arith) g)

  on_four : {b c : ℕ} {l : List ℕ} → 0xF0 ≤ d → d < 0xF5 → length l < n → Tailed b c d l → Utf8 (d ∷ l)
  on_four p q h (tailed f t g) = end_four p q f.behind_f0 f.behind_f4 t (omega arith) (tail_next (omega arith) g)

below : (n : ℕ) → Below n
below zero a b c l h k f = absurd (omega arith)
below (suc n) a b c [] h k f = Utf8.none
below (suc n) a b c (d ∷ l) h (clean p q r) (more f g) =
    let low = f.low in
    dite (dec_lt d 0x80)
    (λ m.
    char (one (octet {b = d} (omega arith) (omega arith))) (below n b c d l (omega arith) (clean (omega arith) (omega arith) (omega arith)) g))
    (λ m.
    let k : 0xC2 ≤ d = omega (arith, m, f.level, f.long) in
    let t = tail_next (omega arith) g in
    dite (dec_lt d 0xE0) (λ u. on_two n (below n) d r k u (omega arith) t)
    (λ u.
    dite (dec_lt d 0xF0) (λ v. on_three n (below n) d (omega (arith, u)) v (omega arith) t)
    (λ v. on_four n (below n) d (omega (arith, v)) low (omega arith) t)))

-- ---- from places to lists

-- no tail is asked for at a place of a list
abbrev CleanAt : List ℕ → ℕ → Type 0
CleanAt z n = Clean (get_or z n 0) (get_or z (n + 1) 0) (get_or z (n + 2) 0)

-- the windows of a list from its second place on
next : {d n : ℕ} {z : List ℕ} → Fitting (d ∷ z) 0 (suc n) → Fitting z 0 n
next f = record { fits = λ i p q. simp unary_clauses (simp unary_clauses at (f.fits (suc i) (omega arith) (omega arith))) }

to_fit : (a b c n : ℕ) (s : List ℕ) → n ≤ length s → Fitting (a ∷ b ∷ c ∷ s) 0 n → CleanAt (a ∷ b ∷ c ∷ s) n → Fit a b c (take n s)
to_fit a b c zero s h f k = done k
to_fit a b c (suc n) [] h f k = absurd (omega arith)
to_fit a b c (suc n) (d ∷ s) h f k = more (f.fits 0 (omega arith) (omega arith)) (to_fit b c d n s (omega arith) (next f) (simp unary_clauses (simp unary_clauses at k)))

-- THE law of the fast pass: a text is well-formed up to a place before which all fits and at which no tail is asked for
pub reach : (s : List ℕ) (b : ℕ) → Fitting (padded s) 0 b → b ≤ length s → CleanAt (padded s) b → WellTo s b
reach s b f h k =
    record {
      inside = h;
      whole = below (suc (length (take b s))) 0 0 0 (take b s) (omega arith) (clean (omega arith) (omega arith) (omega arith)) (to_fit 0 0 0 b s h f k);
    }

-- nothing is sure
pub reach_none : (s : List ℕ) → WellTo s 0
reach_none s = record { inside = omega arith; whole = Utf8.none }

-- ---- the places that the pass goes back to

-- a byte of a text as one of the padded text
padded_at : (s : List ℕ) (j i : ℕ) → j ≡ i + 3 → get_or (padded s) j 0 ≡ get_or s i 0
padded_at s j i e = rw e (simp unary_clauses)

-- a first byte of two, three or four: no tail is asked for before it
pub reach_first : (s : List ℕ) (e b : ℕ) → Fitting (padded s) 0 e → e ≤ length s → b < e → 0xC0 ≤ get_or s b 0 → WellTo s b
reach_first s e b f h l k =
    let g = f.fits b (omega arith) l in
    let q = padded_at s (b + 3) b refl in
    reach s b (record { fits = λ i p m. f.fits i p (omega arith) }) (omega arith)
    (clean (omega (arith, g.level)) (omega (arith, g.level)) (omega (arith, g.level)))

-- the last three bytes ask for none
pub reach_end : (s : List ℕ) (e : ℕ) → Fitting (padded s) 0 e → 3 ≤ e → e ≤ length s → get_or s (e - 1) 0 < 0xC0 → get_or s (e - 2) 0 < 0xE0
    → get_or s (e - 3) 0 < 0xF0 → WellTo s e
reach_end s e f m h p q r =
    let u = padded_at s e (e - 3) (omega arith) in
    let v = padded_at s (e + 1) (e - 2) (omega arith) in
    let w = padded_at s (e + 2) (e - 1) (omega arith) in
    reach s e f h (clean (omega arith) (omega arith) (omega arith))
