-- What the loops of the fast pass learn: of blocks, that every window fits; of ASCII, that no byte is above 7F.
-- By place: a window more, two runs of windows in a row, and where all bytes are ASCII.
use Prim.Native.Nat.{ℕ, suc, ◌+◌, ◌-◌, ◌<◌, ◌≤◌}
use mathlib.Core.Path.{◌≡◌, ap, ◌∙◌}
use mathlib.Core.Bool.{true}
use mathlib.Core.List.{List, [], ◌∷◌}
use mathlib.Core.Logic.{dite}
use native.Mathlib.Numerals.{unary_clauses}
use native.Mathlib.Omega.{arith}
use native.Mathlib.Decide.{dec_lt}
use lib.ListN.{length, get_or, drop, take}
use lib.Seq.{get_or-take, get_or-drop}
use Rattle.scan.proofs.Step.{byte_none}
use Rattle.utf8.specs.Utf8.{octet, one, Utf8, char}
use Rattle.utf8.specs.inner.Width.{is_utf8}
use Rattle.utf8.specs.inner.Windows.{Most, Fits, Fitting, padded}
use Rattle.utf8.proofs.Laws.{is_utf8_lem}

-- ---- windows

-- none yet
pub fitting_none : (l : List ℕ) (a : ℕ) → Fitting l a a
fitting_none l a = record { fits = λ i p q. absurd (omega arith) }

-- one run of windows behind another
pub fitting_join : {l : List ℕ} {a b e : ℕ} → Fitting l a b → Fitting l b e → Fitting l a e
fitting_join {b = b} f g =
    record { fits = λ i p q. dite (dec_lt i b) (λ h. f.fits i p h) (λ n. g.fits i (omega (arith, n)) q) }

-- a window more
pub fitting_more : {l : List ℕ} {a i : ℕ} → Fitting l a i → Fits (get_or l i 0) (get_or l (i + 1) 0) (get_or l (i + 2) 0) (get_or l (i + 3) 0)
    → Fitting l a (i + 1)
fitting_more {l} {a} {i} f g = fitting_join f (record { fits = λ j p q. let e : j ≡ i = omega arith in rw e g })

-- the three windows that begin before a text
pub fitting_first : (s : List ℕ) → Fits 0 0 0 (get_or s 0 0) → Fits 0 0 (get_or s 0 0) (get_or s 1 0) → Fits 0 (get_or s 0 0) (get_or s 1 0) (get_or s 2 0)
    → Fitting (padded s) 0 3
fitting_first s f g h = fitting_more (fitting_more (fitting_more (fitting_none (padded s) 0) f) g) h

-- the windows of a text, of the padded text
fitting_padded : (s : List ℕ) (a e : ℕ) → Fitting s a e → Fitting (padded s) (a + 3) (e + 3)
fitting_padded s a e f =
    record { fits = λ i p q. let j : i ≡ i - 3 + 3 = omega arith in rw j (simp unary_clauses (simp unary_clauses at (f.fits (i - 3) (omega arith) (omega arith)))) }

-- a block more
pub fitting_block : (s : List ℕ) (i e : ℕ) → Fitting (padded s) 0 (i + 3) → Fitting s i e → Fitting (padded s) 0 (e + 3)
fitting_block s i e f g = fitting_join f (fitting_padded s i e g)

-- ---- ASCII

-- ASCII behind ASCII fits
ascii_fits : (a b c d : ℕ) → a < 0x80 → b < 0x80 → c < 0x80 → d < 0x80 → Fits a b c d
ascii_fits a b c d p q r t = record {
  level = omega arith;
  long = omega arith;
  low = omega arith;
  behind_e0 = omega arith;
  behindED = omega arith;
  behind_f0 = omega arith;
  behind_f4 = omega arith;
}

-- the bytes of a part, none above n
in_part : (s : List ℕ) (i k n : ℕ) → Most (take k (drop i s)) n → (j : ℕ) → i ≤ j → j < i + k → get_or s j 0 ≤ n
in_part s i k n m j p q =
    let e : get_or s (i + (j - i)) 0 ≡ get_or s j 0 = ap (λ (x : ℕ). get_or s x 0) (omega arith) in
    let f = get_or-take k (drop i s) (j - i) 0 (omega arith) ∙ get_or-drop i s (j - i) 0 ∙ e in
    omega (arith, m.most (j - i))

-- a block that is all ASCII
pub fitting_ascii : (s : List ℕ) (i e n : ℕ) → i ≤ e → Most (take (e + 3 - i) (drop i s)) n → n < 0x80 → Fitting s i e
fitting_ascii s i e n h m l =
    let byte = in_part s i (e + 3 - i) n m in
    record {
      fits = λ j p q.
          ascii_fits (get_or s j 0) (get_or s (j + 1) 0) (get_or s (j + 2) 0) (get_or s (j + 3) 0)
          (omega (arith, byte j (omega arith) (omega arith))) (omega (arith, byte (j + 1) (omega arith) (omega arith)))
          (omega (arith, byte (j + 2) (omega arith) (omega arith))) (omega (arith, byte (j + 3) (omega arith) (omega arith)));
    }

-- a text of 16 to 32 bytes, by its first and its last 16
pub most_ends : (s : List ℕ) (m a b : ℕ) → m ≡ length s - 16 → 16 ≤ length s → length s ≤ 32 → Most (take 16 s) a → a < 0x80
    → Most (take (length s - m) (drop m s)) b → b < 0x80 → Most s 0x7F
most_ends s m a b e g h f p k q = record {
  most = λ i.
      dite (dec_lt i 16) (λ l. omega (arith, f.most i, get_or-take 16 s i 0 l))
      (λ n.
      dite (dec_lt i (length s)) (λ l. omega (arith, in_part s m (length s - m) b k i (omega (arith, n)) (omega arith)))
      (λ o. omega (arith, byte_none s i (omega (arith, o)))));
}

-- such a text is well-formed
ascii : (l : List ℕ) → Most l 0x7F → Utf8 l
ascii [] m = Utf8.none
ascii (b ∷ l) m =
    let h = m.most 0 in
    char (one (octet {b = b} (omega arith) h)) (ascii l (record { most = λ i. m.most (suc i) }))

pub most_utf8 : {l : List ℕ} → Most l 0x7F → is_utf8 l ≡ true
most_utf8 {l} m = (is_utf8_lem l).1 (ascii l m)
