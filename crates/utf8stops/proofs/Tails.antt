-- A sequence's first byte is no tail, and all behind it are tails.
-- By the nine rows of the grammar.
use Prim.Native.Nat.{ℕ, zero, suc, ◌+◌, ◌-◌, ◌<◌, ◌≤◌}
use mathlib.Core.Path.{◌≡◌}
use mathlib.Core.Bool.{true, false}
use mathlib.Core.List.{List, [], ◌∷◌}
use native.Mathlib.Omega.{arith}
use lib.ListN.{length, get_or}
use borrow.Author.Tests.{le-leb, lt-leb}
use Rattle.scan.specs.Place.{within}
use Rattle.scan.specs.inner.Span.{Span}
use Rattle.scan.proofs.SpanLaws.{open_span, span_length, nth}
use Rattle.utf8.specs.Utf8.{Octet, octet, Tail, Char, one, two, three_E0, three_E1, three_ED, three_EE, four_F0, four_F1, four_F4}
use Rattle.utf8.specs.inner.Width.{is_tail}
use Rattle.utf8.proofs.WidthLaws.{char_length}

in_tail : {b : ℕ} → Tail b → is_tail b ≡ true
unfolding within
in_tail {b} (octet p q) = rw (le-leb 0x80 b p, le-leb b 0xBF q)

low : {b : ℕ} → b ≤ 0x7F → is_tail b ≡ false
unfolding within
low {b} h = rw (lt-leb 0x80 b (omega arith))

high : {b : ℕ} → 0xC0 ≤ b → is_tail b ≡ false
unfolding within
high {b} h = rw (le-leb 0x80 b (omega arith), lt-leb b 0xBF (omega arith))

narrow : {l h b : ℕ} → 0x80 ≤ l → h ≤ 0xBF → Octet l h b → Tail b
narrow {b = b} x y (octet p q) = octet {b = b} (omega arith) (omega arith)

-- the first is no tail
pub first_byte : {a : ℕ} {l : List ℕ} → Char (a ∷ l) → is_tail a ≡ false
first_byte (one (octet p q)) = low q
first_byte {a} (two (octet p q) t) = high {b = a} (omega arith)
first_byte (three_E0 o t) = high (omega arith)
first_byte {a} (three_E1 (octet p q) t u) = high {b = a} (omega arith)
first_byte (three_ED o t) = high (omega arith)
first_byte {a} (three_EE (octet p q) t u) = high {b = a} (omega arith)
first_byte (four_F0 o t u) = high (omega arith)
first_byte {a} (four_F1 (octet p q) t u v) = high {b = a} (omega arith)
first_byte (four_F4 o t u) = high (omega arith)

one_of : {b : ℕ} (k : ℕ) → Tail b → k < 1 → is_tail (get_or (b ∷ []) k 0) ≡ true
one_of zero t h = in_tail t
one_of (suc k) t h = absurd (omega arith)

two_of_lem : {b c : ℕ} (k : ℕ) → Tail b → Tail c → k < 2 → is_tail (get_or (b ∷ c ∷ []) k 0) ≡ true
two_of_lem zero t u h = in_tail t
two_of_lem (suc k) t u h = one_of k u (omega arith)

three_of_lem : {b c d : ℕ} (k : ℕ) → Tail b → Tail c → Tail d → k < 3 → is_tail (get_or (b ∷ c ∷ d ∷ []) k 0) ≡ true
three_of_lem zero t u v h = in_tail t
three_of_lem (suc k) t u v h = two_of_lem k u v (omega arith)

-- all others are
later_byte : {a : ℕ} {l : List ℕ} (k : ℕ) → Char (a ∷ l) → k < length l → is_tail (get_or l k 0) ≡ true
later_byte k (one o) h = absurd (omega arith)
later_byte k (two o t) h = one_of k t h
later_byte k (three_E0 o t) h = two_of_lem k (narrow (omega arith) (omega arith) o) t h
later_byte k (three_E1 o t u) h = two_of_lem k t u h
later_byte k (three_ED o t) h = two_of_lem k (narrow (omega arith) (omega arith) o) t h
later_byte k (three_EE o t u) h = two_of_lem k t u h
later_byte k (four_F0 o t u) h = three_of_lem k (narrow (omega arith) (omega arith) o) t u h
later_byte k (four_F1 o t u v) h = three_of_lem k t u v h
later_byte k (four_F4 o t u) h = three_of_lem k (narrow (omega arith) (omega arith) o) t u h

-- a byte inside a sequence
pub inside : (s : List ℕ) {a b e : ℕ} (c : List ℕ) → Char c → Span s a c b → a < e → e < b → is_tail (get_or s e 0) ≡ true
inside s [] g r h k = absurd (omega (arith, char_length g))
inside s {a} {b} {e} (x ∷ c) g r h k =
    let u = open_span r in
    let n : a + 1 + (e - (a + 1)) ≡ e = omega arith in
    let l = span_length u.2 in
    rw (rw n at (nth (e - (a + 1)) u.2 (omega arith))) (later_byte (e - (a + 1)) g (omega arith))
