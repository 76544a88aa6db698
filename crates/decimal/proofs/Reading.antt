-- A run of digits as it is read: accepts and consumes over `Span`, and what is written reads back.
-- The run is the longest span of digits, so its digits are the list that the span holds.
use Prim.Native.Nat.{ℕ, ◌+◌, ◌-◌, ◌<◌, ◌≤◌}
use mathlib.Core.Path.{◌≡◌, refl, sym, ap, ◌∙◌}
use mathlib.Core.Bool.{Bool, true, false}
use mathlib.Core.List.{List, [], ◌∷◌}
use mathlib.Core.Logic.{dite}
use native.Mathlib.Omega.{arith}
use native.Mathlib.Decide.{dec_le}
use lib.ListN.{length, get_or, drop, length-drop}
use lib.Seq.{take_at}
use lib.Dec.{leb}
use borrow.Author.Tests.{le-leb, lt-leb, leb-true, eq-eqb, ne_eqb}
use Rattle.scan.specs.Choice.{pick}
use Rattle.scan.specs.Place.{within, run, run_at}
use Rattle.scan.specs.Bytes.{All}
use Rattle.scan.specs.inner.Span.{here, Span}
use Rattle.scan.proofs.Step.{byte_none, pick_true, pick_by}
use Rattle.scan.proofs.SpanLaws.{span_length, none_span, from_span, place}
use Rattle.scan.proofs.PlaceLaws.{span_run, run_span}
use Rattle.decimal.specs.Decimal.{DecimalDigit, digit, is_digit, number_of, decimal}
use Rattle.decimal.specs.inner.Run.{number, over, Digits, digits_to, digits_at}
use Rattle.decimal.proofs.Spelling.{length_some, decimal_digits, number_decimal}

-- ---- the test of a digit

-- a digit passes the test
pub digit_passes : (b : ℕ) → DecimalDigit b → is_digit b ≡ true
unfolding within
digit_passes b (digit p q) = simp (le-leb 48 b p, le-leb b 57 q)

-- what passes the test is a digit
pub passes_digit : (b : ℕ) → is_digit b ≡ true → DecimalDigit b
unfolding within
passes_digit b h = let t = pick_true (leb 48 b) (leb b 57) h in digit (leb-true 48 b t.0) (leb-true b 57 t.1)

-- a byte that is no digit fails the test
pub other_fails : (b : ℕ) → (DecimalDigit b → ⊥) → is_digit b ≡ false
other_fails b n = go (is_digit b) refl
  where
    go : (t : Bool) → is_digit b ≡ t → t ≡ false
    go true e = absurd (n (passes_digit b e))
    go false e = refl

-- no digit stands behind the run
pub run_stops : (s : List ℕ) (at : ℕ) → is_digit (get_or s (run_at is_digit s at) 0) ≡ false
unfolding run_at run within
run_stops s at = go (drop at s) at refl
  where
    go : (l : List ℕ) (i : ℕ) → drop i s ≡ l → is_digit (get_or s (run is_digit l i) 0) ≡ false
    go [] i q = simp (byte_none s i (omega (arith, length-drop i s, ap length q)))
    go (b ∷ l) i q =
        let u = place s i b l q in
        pick_by (λ (e : ℕ). is_digit (get_or s e 0) ≡ false) (is_digit b) (λ t. go l (i + 1) u.2) (λ f. rw u.1 f)

-- ---- accepts

module _ (max : ℕ) (s : List ℕ) {at c : ℕ} {l : List ℕ} (all : All DecimalDigit l) (some : 0 < length l) (span : Span s at l c)
    (stop : c < length s → is_digit (get_or s c 0) ≡ false) where
  told : digits_at max s at ≡ pick (leb (number_of l) max) (number (number_of l) c) (over c)
  unfolding digits_at digits_to
  told =
      let e = span_length span in
      let n : c - at ≡ length l = omega arith in
      rw (span_run is_digit DecimalDigit digit_passes s all span stop, ne_eqb c at (λ f. omega arith), n, from_span span, take_at l (drop c s) (length l) refl)

  -- digits that spell a number up to the maximum are read as it
  pub accepts_number : number_of l ≤ max → digits_at max s at ≡ number (number_of l) c
  accepts_number h = told ∙ simp (le-leb (number_of l) max h)

  -- digits that spell more than the maximum are told as over it, at their end
  pub accepts_over : max < number_of l → digits_at max s at ≡ over c
  accepts_over h = told ∙ simp (lt-leb (number_of l) max h)

-- where no digit stands, none is read
pub accepts_none : (max : ℕ) (s : List ℕ) (at : ℕ) → (at < length s → is_digit (get_or s at 0) ≡ false) → digits_at max s at ≡ Digits.none
unfolding digits_at digits_to
accepts_none max s at stop = rw (span_run is_digit DecimalDigit digit_passes s All.none here stop, eq-eqb at at refl)

-- what is written reads back, where no digit follows
pub decimal_reads : (max : ℕ) (s : List ℕ) (n : ℕ) {at c : ℕ} → n ≤ max → Span s at (decimal n) c → (c < length s → is_digit (get_or s c 0) ≡ false)
    → digits_at max s at ≡ number n c
decimal_reads max s n {at} {c} h span stop =
    let e = number_decimal n in
    accepts_number max s (decimal_digits n) (length_some n) span stop (omega arith) ∙ ap (λ (m : ℕ). number m c) e

-- ---- consumes

-- what stands at `at` where a read told this: digits to its end and none behind them, or no digit at all
pub data Taken (max : ℕ) (s : List ℕ) (at : ℕ) : Digits → Type 0 where
  took_number : {n c : ℕ} {l : List ℕ} → All DecimalDigit l → 0 < length l → Span s at l c → is_digit (get_or s c 0) ≡ false → number_of l ≡ n → n ≤ max
      → Taken max s at (number n c)
  took_over : {c : ℕ} {l : List ℕ} → All DecimalDigit l → 0 < length l → Span s at l c → is_digit (get_or s c 0) ≡ false → max < number_of l
      → Taken max s at (over c)
  took_none : is_digit (get_or s at 0) ≡ false → Taken max s at Digits.none

-- every answer is one of the three
pub consumes : (max : ℕ) (s : List ℕ) (at : ℕ) → Taken max s at (digits_at max s at)
consumes max s at = let r = run_span is_digit DecimalDigit passes_digit s at in go r.0 r.1 r.2
  where
    go : (l : List ℕ) → All DecimalDigit l → Span s at l (run_at is_digit s at) → Taken max s at (digits_at max s at)
    go [] all span =
        let f = rw (sym (none_span span)) at (run_stops s at) in
        rw (accepts_none max s at (λ h. f)) (took_none f)
    go (b ∷ l) all span =
        let f = run_stops s at in
        dite (dec_le (number_of (b ∷ l)) max)
        (λ h. rw (accepts_number max s all (omega arith) span (λ k. f) h) (took_number all (omega arith) span f refl h))
        (λ h. rw (accepts_over max s all (omega arith) span (λ k. f) (omega (arith, h))) (took_over all (omega arith) span f (omega (arith, h))))

-- a number is read from digits that spell it, and no digit stands behind them
pub consumes_number : (max : ℕ) (s : List ℕ) (at : ℕ) {n c : ℕ} → digits_at max s at ≡ number n c
    → (l : List ℕ) × All DecimalDigit l × (0 < length l) × Span s at l c × (is_digit (get_or s c 0) ≡ false) × (number_of l ≡ n) × (n ≤ max)
consumes_number max s at {n} {c} e = go (rw e at (consumes max s at))
  where
    go : Taken max s at (number n c) → (l : List ℕ) × All DecimalDigit l × (0 < length l) × Span s at l c × (is_digit (get_or s c 0) ≡ false) × (number_of l ≡ n) × (n ≤ max)
    go (took_number {l = l} all some span stop spell fits) = (l, all, some, span, stop, spell, fits)

-- over the maximum is told of digits that spell more, and no digit stands behind them
pub consumes_over : (max : ℕ) (s : List ℕ) (at : ℕ) {c : ℕ} → digits_at max s at ≡ over c
    → (l : List ℕ) × All DecimalDigit l × (0 < length l) × Span s at l c × (is_digit (get_or s c 0) ≡ false) × (max < number_of l)
consumes_over max s at {c} e = go (rw e at (consumes max s at))
  where
    go : Taken max s at (over c) → (l : List ℕ) × All DecimalDigit l × (0 < length l) × Span s at l c × (is_digit (get_or s c 0) ≡ false) × (max < number_of l)
    go (took_over {l = l} all some span stop more) = (l, all, some, span, stop, more)

-- where none is read, no digit stands
pub consumes_none : (max : ℕ) (s : List ℕ) (at : ℕ) → digits_at max s at ≡ Digits.none → is_digit (get_or s at 0) ≡ false
consumes_none max s at e = go (rw e at (consumes max s at))
  where
    go : Taken max s at Digits.none → is_digit (get_or s at 0) ≡ false
    go (took_none stop) = stop
