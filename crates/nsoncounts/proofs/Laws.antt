-- Small laws that several functions share: what fits behind a piece or up to an end, and reads taken apart.
-- Each is a case or a line of arithmetic.
use Prim.Native.Nat.{ℕ, ◌+◌, ◌*◌, ◌-◌, ◌%◌, ◌<◌, ◌≤◌}
use mathlib.Core.Path.{◌≡◌, refl, sym, ap, ◌∙◌}
use mathlib.Core.Bool.{Bool, true, false}
use mathlib.Core.List.{List}
use native.Mathlib.Omega.{arith}
use lib.ListN.{length, get_or, take, drop, length-take, length-drop}
use lib.Seq.{get_or-take, get_or-drop}
use lib.Dec.{leb, eqb}
use borrow.Author.Tests.{le-leb, lt-leb, eqb-true}
use Rattle.scan.specs.Choice.{pick, Answer, shown, refused, Read, read, and_then}
use Rattle.scan.specs.Place.{stands_at}
use Rattle.scan.proofs.Step.{pick_true}
use Rattle.scan.proofs.PlaceLaws.{stands_span}
use Rattle.scan.proofs.SpanLaws.{span_fits}
use Rattle.scan.proofs.Reading.{read_same}
use Rattle.event.specs.declared.Reason.{Reason}
use Rattle.event.specs.inner.Told.{number_of}
use Rattle.hexdigits.specs.Hex.{value_of, all_digits}
use Rattle.jsontext.specs.inner.Escape.{unescape}
use Rattle.nson.specs.Read.{part_at, hex_at, text_at, byte_here, word_here}
use Rattle.nsoncounts.specs.inner.Counted.{next_of, is_hex, text_size_at}

-- ---- what fits

-- a piece that stands is within the input
pub piece_fits : (w s : List ℕ) (at : ℕ) {t : Bool} → t ≡ stands_at w s at → t ≡ true → length w ≤ length s - at
piece_fits w s at e h = span_fits (stands_span w s at (sym e ∙ h))

-- so is a part of full length
pub part_fits : (n : ℕ) (s : List ℕ) (at : ℕ) {l : List ℕ} → l ≡ take n (drop at s) → length l ≡ n → n ≤ length s - at
part_fits n s at {l} e h =
    let k : length (take n (drop at s)) ≤ length s - at = simp (length-take, length-drop) (omega arith) in
    let m = ap length e in
    omega arith

-- a part is no longer than asked for
pub part_most : (n : ℕ) (s : List ℕ) (at : ℕ) {l : List ℕ} → l ≡ take n (drop at s) → length l ≤ n
part_most n s at e =
    let k : length (take n (drop at s)) ≤ n = simp (length-take) (omega arith) in
    let d = ap length e in
    omega arith

-- hex digits by one test; where it passes they are within the input
pub hex_by : (n : ℕ) (s : List ℕ) (at : ℕ) → hex_at n s at ≡ pick (is_hex n s at) (shown (at + n)) (refused 12 at)
unfolding hex_at is_hex
hex_by n s at = go (eqb (length (part_at n s at)) n)
  where
    go : (t : Bool)
        → pick t (pick (all_digits (part_at n s at)) (shown (at + n)) (refused 12 at)) (refused 12 at)
        ≡ pick (pick t (all_digits (part_at n s at)) false) (shown (at + n)) (refused 12 at)
    go true = refl
    go false = refl

pub hex_fits : (n : ℕ) (s : List ℕ) (at : ℕ) → is_hex n s at ≡ true → n ≤ length s - at
unfolding is_hex
hex_fits n s at h = part_fits n s at refl (eqb-true _ n (pick_true (eqb (length (part_at n s at)) n) (all_digits (part_at n s at)) h).0)

pub ruleset hex_steps = (hex_by, hex_fits)

-- ---- whether a descriptor passes the end

pub room : (at n end : ℕ) → n ≤ end → at ≤ end - n → leb (at + n) end ≡ true
room at n end h k = le-leb (at + n) end (omega arith)

pub no_room : (at n end : ℕ) → end - n < at → leb (at + n) end ≡ false
no_room at n end h = lt-leb (at + n) end (omega arith)

pub no_width : (at n end : ℕ) → end < n → leb (at + n) end ≡ false
no_width at n end h = lt-leb (at + n) end (omega arith)

pub ruleset room_steps = (room, no_room, no_width)

-- ---- a refusal's number

pub reason_some : (r : Reason) → 1 ≤ number_of r
reason_some r = grind arith

-- ---- bytes and words at a place

part_byte : (n : ℕ) (s : List ℕ) (at : ℕ) (k : ℕ) {l : List ℕ} → l ≡ take n (drop at s) → k < n → get_or l k 0 ≡ get_or s (at + k) 0
part_byte n s at k e h = ap (λ (l : List ℕ). get_or l k 0) e ∙ get_or-take n (drop at s) k 0 h ∙ get_or-drop at s k 0

-- the byte of the two digits of a part
pub byte_part : (s : List ℕ) (at : ℕ) {l : List ℕ} {a b : ℕ} → l ≡ take 2 (drop at s) → a ≡ get_or l 0 0 → b ≡ get_or l 1 0
    → 16 * (value_of a % 16) + value_of b % 16 ≡ byte_here s at
unfolding byte_here
byte_part s at {l} {a} {b} e p q =
    let k : at + 0 ≡ at = omega arith in
    let f : a ≡ get_or s at 0 = p ∙ part_byte 2 s at 0 e (omega arith) ∙ ap (λ (i : ℕ). get_or s i 0) k in
    let g : b ≡ get_or s (at + 1) 0 = q ∙ part_byte 2 s at 1 e (omega arith) in
    rw (f, g) refl

-- the byte at a place of a part
part_here : (s : List ℕ) (at k : ℕ) {l : List ℕ} → l ≡ take 4 (drop at s) → k + 1 < 4 → byte_here l k ≡ byte_here s (at + k)
unfolding byte_here
part_here s at k e h =
    let j : at + (k + 1) ≡ at + k + 1 = omega arith in
    rw (part_byte 4 s at k e (omega arith), part_byte 4 s at (k + 1) e h, j) refl

-- the number of the two bytes of a part
pub word_part : (s : List ℕ) (at : ℕ) {l : List ℕ} {a b : ℕ} → l ≡ take 4 (drop at s) → a ≡ byte_here l 0 → b ≡ byte_here l 2 → 256 * a + b ≡ word_here s at
unfolding word_here
word_part s at e p q =
    let k : at + 0 ≡ at = omega arith in
    let f = p ∙ part_here s at 0 e (omega arith) ∙ ap (byte_here s) k in
    let g = q ∙ part_here s at 2 e (omega arith) in
    rw (f, g) refl

-- ---- reads taken apart

-- what follows one read and then another
pub then_then : {A B C : Type 0} (r : Answer A) (f : A → Answer B) (g : B → Answer C) → and_then (and_then r f) g ≡ and_then r (λ x. and_then (f x) g)
then_then (shown x) f g = refl
then_then (refused n p) f g = refl

-- the same steps where the read shows a value
pub then_same : {A B : Type 0} (r : Answer A) (f g : A → Answer B) → ((x : A) → r ≡ shown x → f x ≡ g x) → and_then r f ≡ and_then r g
then_same (shown x) f g h = h x refl
then_same (refused n p) f g h = refl

module _ {A : Type 0} where
  -- the place behind a read is that of a value
  pub next_shown : (r : Answer (Read A)) {p : ℕ} → next_of r ≡ shown p → (x : A) × (r ≡ read x p)
  next_shown (shown x) e = let f : x.next ≡ _ = shown_same e in (x.value, ap (λ (n : ℕ). read x.value n) f)
    where
      shown_same : {a b : ℕ} → ◌≡◌ {A = Answer ℕ} (shown a) (shown b) → a ≡ b
      shown_same e = cc
  next_shown (refused n p) e = let z : ◌≡◌ {A = ℕ} 0 1 = cc in absurd (omega arith)

  pub next_refused : (r : Answer (Read A)) {n p : ℕ} → next_of r ≡ refused n p → r ≡ refused n p
  next_refused (shown x) e = let z : ◌≡◌ {A = ℕ} 0 1 = cc in absurd (omega arith)
  next_refused (refused n p) e = cc

  -- a check whose place is then read with a value is that check
  check_shown : (x : A) (t : Answer ℕ) {y : A} {p : ℕ} → and_then t (λ p. read x p) ≡ read y p → (t ≡ shown p) × (y ≡ x)
  check_shown x (shown q) e = let g = read_same e in (ap shown g.1, sym g.0)
  check_shown x (refused n p) e = let z : ◌≡◌ {A = ℕ} 0 1 = cc in absurd (omega arith)

-- a counted text whose length was told was read
pub text_shown : (n : ℕ) (s : List ℕ) (at : ℕ) {m p : ℕ} → text_size_at n s at ≡ read m p → (text_at n s at ≡ shown p) × (m ≡ length (unescape (part_at n s at)))
text_shown n s at e = check_shown (length (unescape (part_at n s at))) (text_at n s at) e
