-- What `read_decimal` goes by: the run's digits, and what the first of them spell, which is at most the maximum.
-- A turn adds a digit; at the end the laws `accepts_..` say what is read.
use Prim.Native.Nat.{ℕ, ◌+◌, ◌*◌, ◌-◌, ◌/◌, ◌<◌, ◌≤◌}
use mathlib.Core.Path.{◌≡◌, refl, sym, ap, ◌∙◌}
use mathlib.Core.Bool.{Bool, true, false}
use mathlib.Core.List.{List, [], ◌∷◌, ◌++◌}
use mathlib.Core.Logic.{dite}
use native.Mathlib.Numerals.{unary_clauses}
use native.Mathlib.Omega.{arith}
use native.Mathlib.Decide.{dec_le}
use lib.ListN.{length, get_or, take, drop}
use Rattle.std.proofs.Math.Seq.{take-suc}
use Rattle.std.proofs.lemmas.List.{take-append-drop, take_all}
use lib.Dec.{leb}
use borrow.Author.Tests.{le-leb, lt-leb, leb-true, leb-false}
use Rattle.scan.specs.Place.{run_at}
use Rattle.scan.specs.Bytes.{All}
use Rattle.scan.specs.inner.Span.{Span}
use Rattle.scan.proofs.SpanLaws.{part_of_span, span_length}
use Rattle.scan.proofs.PlaceLaws.{run_span}
use Rattle.decimal.specs.Decimal.{DecimalDigit, digit, is_digit, number_of}
use Rattle.decimal.specs.inner.Run.{number, over, Digits, digits_at}
use Rattle.decimal.proofs.Spelling.{behind_append, behind_grows}
use Rattle.decimal.proofs.Reading.{passes_digit, run_stops, accepts_number, accepts_over, accepts_none}

-- what the two tests of a turn say

pub least : {b : ℕ} → DecimalDigit b → 48 ≤ b
least (digit p q) = p

-- what `fits_behind` compares, with no number above max
pub behind_fits : (value d max : ℕ) → d ≤ max → leb value ((max - d) / 10) ≡ leb (value * 10 + d) max
behind_fits value d max h =
    dite (dec_le (value * 10 + d) max)
    (λ p. le-leb value ((max - d) / 10) (omega arith) ∙ sym (le-leb (value * 10 + d) max p))
    (λ q. lt-leb value ((max - d) / 10) (omega (arith, q)) ∙ sym (lt-leb (value * 10 + d) max (omega (arith, q))))

pub behind_over : (value d max : ℕ) → max < d → false ≡ leb (value * 10 + d) max
behind_over value d max h = sym (lt-leb (value * 10 + d) max (omega arith))

at_most : (n max : ℕ) {u : Bool} → u ≡ leb n max → u ≡ true → n ≤ max
at_most n max f m = leb-true n max (sym f ∙ m)

-- ---- the run, and its digits one by one

-- the digits of the run at a place, which ends at `end`
pub record Digit (s : List ℕ) (at end : ℕ) (l : List ℕ) : Type 0 where
  pub all : All DecimalDigit l
  pub span : Span s at l end
  pub stop : is_digit (get_or s end 0) ≡ false

pub the_run : (s : List ℕ) (at end : ℕ) (l : List ℕ) → end ≡ run_at is_digit s at → l ≡ take (end - at) (drop at s) → Digit s at end l
the_run s at end l e f =
    let r = run_span is_digit DecimalDigit passes_digit s at in
    let p : Span s at r.0 end = rw e r.2 in
    let n : length r.0 ≡ end - at = omega (arith, span_length p) in
    let g : l ≡ r.0 = f ∙ part_of_span (end - at) n p in
    record { all = rw g r.1; span = rw g p; stop = rw e (run_stops s at) }

-- the run starts where it is asked for
pub run_on : (s : List ℕ) (at end : ℕ) → end ≡ run_at is_digit s at → at ≤ end
run_on s at end e = omega (arith, e, span_length (run_span is_digit DecimalDigit passes_digit s at).2)

-- its first k digits spell a value up to the maximum
pub record Spelt (max : ℕ) (l : List ℕ) (k value : ℕ) : Type 0 where
  pub spell : number_of (take k l) ≡ value
  pub fits : value ≤ max

pub spelt_none : (max : ℕ) (l : List ℕ) → Spelt max l 0 0
spelt_none max l = record { spell = refl; fits = omega arith }

module _ (max : ℕ) (l : List ℕ) (k value : ℕ) where
  -- one digit more
  one_more : k < length l → number_of (take k l) ≡ value → number_of (take (k + 1) l) ≡ value * 10 + (get_or l k 0 - 48)
  one_more h e =
      let d = get_or l k 0 in
      let one : take (k + 1) l ≡ take k l ++ (d ∷ []) = simp unary_clauses (take-suc l k 0 h) in
      ap number_of one ∙ behind_append 0 (take k l) (d ∷ []) ∙ ap (λ (n : ℕ). n * 10 + (d - 48)) e

  pub spelt_more : {u : Bool} → k < length l → Spelt max l k value → u ≡ leb (value * 10 + (get_or l k 0 - 48)) max → u ≡ true
      → Spelt max l (k + 1) (value * 10 + (get_or l k 0 - 48))
  spelt_more h v f m = record { spell = one_more h v.spell; fits = at_most (value * 10 + (get_or l k 0 - 48)) max f m }

  -- with one digit more it is over the maximum, and so with all
  pub spelt_over : {u : Bool} → k < length l → Spelt max l k value → u ≡ leb (value * 10 + (get_or l k 0 - 48)) max → u ≡ false → max < number_of l
  spelt_over h v f m =
      let e = ap number_of (sym (take-append-drop (k + 1) l)) ∙ behind_append 0 (take (k + 1) l) (drop (k + 1) l) in
      let more = leb-false (value * 10 + (get_or l k 0 - 48)) max (sym f ∙ m) in
      omega (arith, e, one_more h v.spell, behind_grows (number_of (take (k + 1) l)) (drop (k + 1) l))

  -- all of them
  pub spelt_all : length l ≤ k → Spelt max l k value → number_of l ≡ value
  spelt_all h v = ap number_of (sym (take_all k l h)) ∙ v.spell

module _ (max : ℕ) (s : List ℕ) (at end : ℕ) where
  pub told_none : end ≡ run_at is_digit s at → end ≡ at → Digits.none ≡ digits_at max s at
  told_none e f =
      let stop : is_digit (get_or s at 0) ≡ false = rw (sym f) (rw e (run_stops s at)) in
      sym (accepts_none max s at (λ h. stop))

  pub told_over : (l : List ℕ) → Digit s at end l → (end ≡ at → ⊥) → max < number_of l → over end ≡ digits_at max s at
  told_over l d n h = sym (accepts_over max s d.all (omega (arith, n, span_length d.span)) d.span (λ k. d.stop) h)

  pub told_number : (value : ℕ) (l : List ℕ) → Digit s at end l → (end ≡ at → ⊥) → number_of l ≡ value → value ≤ max → number value end ≡ digits_at max s at
  told_number value l d n e h = sym (rw e at (accepts_number max s d.all (omega (arith, n, span_length d.span)) d.span (λ k. d.stop) (rw e h)))
