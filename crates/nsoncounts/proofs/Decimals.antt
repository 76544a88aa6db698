-- A part is a number's decimal spelling exactly if it is one run of digits up to its end that begins with no 0 unless
-- that is all.
-- From the two laws of crate decimal: what is read is digits, and what is spelled is read.
use Prim.Native.Nat.{ℕ, ◌+◌, ◌-◌, ◌<◌, ◌≤◌}
use mathlib.Core.Path.{◌≡◌, refl, sym, ap, ◌∙◌}
use mathlib.Core.Bool.{Bool, true, false}
use mathlib.Core.List.{List, [], ◌∷◌}
use mathlib.Core.Logic.{dite}
use native.Mathlib.Omega.{arith}
use native.Mathlib.Decide.{dec_le}
use lib.ListN.{length, get_or, take, drop}
use lib.Dec.{eqb}
use borrow.Author.Tests.{le-leb, lt-leb, eq-eqb, eqb-true}
use Rattle.scan.specs.Choice.{pick, refused, read}
use Rattle.scan.specs.Bytes.{All}
use Rattle.scan.specs.inner.Span.{Span}
use Rattle.scan.proofs.Step.{pick_true, false_true}
use Rattle.scan.proofs.SpanLaws.{whole_span, input_span, span_length, span_fits}
use Rattle.decimal.specs.Decimal.{DecimalDigit, decimal, number_of}
use Rattle.decimal.specs.inner.Run.{number, over, Digits, digits_at}
use Rattle.decimal.proofs.Spelling.{decimal_first, decimal_last, decimal_unique, decimal_digits, length_some, ten_length}
use Rattle.decimal.proofs.Reading.{accepts_number, accepts_over, consumes_number, consumes_over}
use Rattle.scan.specs.Compare.{same_bytes}
use Rattle.scan.proofs.CompareLaws.{same_same, bytes_same}
use Rattle.nson.specs.Read.{is_decimal, decimal_at}
use Rattle.nsoncounts.specs.inner.Counted.{up_to, full_width}
use Rattle.nsoncounts.proofs.Laws.{part_fits, part_most}

-- where digits end
abbrev end_of : Digits → ℕ
end_of (number v c) = c
end_of (over c) = c
end_of Digits.none = 0

-- ---- a spelled number is read to its end

record Spelled (max n : ℕ) (l : List ℕ) : Type 0 where
  text : l ≡ decimal (number_of l)
  count : length l ≡ n
  some : 0 < n
  ends : end_of (digits_at max l 0) ≡ n
  first : get_or l 0 0 ≡ 48 → n ≡ 1

spelled_by : (max n m : ℕ) (l : List ℕ) → l ≡ decimal m → m ≡ number_of l → length l ≡ n → Spelled max n l
spelled_by max n m l e v k =
    let f = ap length e in
    let some = length_some m in
    let span : Span l 0 (decimal m) n = rw (sym e, sym k) (input_span l) in
    record {
      text = e ∙ ap decimal v;
      count = k;
      some = omega arith;
      ends =
          dite (dec_le (number_of (decimal m)) max)
          (λ h. ap end_of (accepts_number max l (decimal_digits m) some span (λ q. absurd (omega arith)) h))
          (λ h. ap end_of (accepts_over max l (decimal_digits m) some span (λ q. absurd (omega arith)) (omega (arith, h))));
      first = λ q. let z = decimal_first m (sym (ap (λ (x : List ℕ). get_or x 0 0) e) ∙ q) in let o = ap length (e ∙ ap decimal z ∙ decimal_last 0 (omega arith)) in omega arith;
    }

spelled : (max n : ℕ) (l : List ℕ) → is_decimal n l ≡ true → Spelled max n l
unfolding is_decimal
spelled max n l t =
    let p = pick_true (eqb (length l) n) (same_bytes l (decimal (number_of l))) t in
    spelled_by max n (number_of l) l (bytes_same l (decimal (number_of l)) p.1) refl (eqb-true (length l) n p.0)

-- what is not spelled is not the decimal spelling
not_decimal : (n : ℕ) (l : List ℕ) → (is_decimal n l ≡ true → ⊥) → is_decimal n l ≡ false
not_decimal n l k = go (is_decimal n l) refl
  where
    go : (b : Bool) → is_decimal n l ≡ b → b ≡ false
    go true e = absurd (k e)
    go false e = refl

spelled_width : (max n : ℕ) (l : List ℕ) {c : ℕ} → end_of (digits_at max l 0) ≡ c → is_decimal n l ≡ true → full_width n l c ≡ true
unfolding full_width
spelled_width max n l {c} e t = let s = spelled max n l t in rw (eq-eqb c n (sym e ∙ s.ends)) (go (eqb (get_or l 0 0) 48) refl)
  where
    go : (b : Bool) → eqb (get_or l 0 0) 48 ≡ b → pick b (eqb n 1) true ≡ true
    go true q = eq-eqb n 1 ((spelled max n l t).first (eqb-true (get_or l 0 0) 48 q))
    go false q = refl

-- ---- and a run that is the whole part is spelled

-- digits from the start of a list up to a place
record Run (l d : List ℕ) (c : ℕ) : Type 0 where
  all : All DecimalDigit d
  some : 0 < length d
  span : Span l 0 d c

record Says (n : ℕ) (l : List ℕ) : Type 0 where
  whole : length l ≡ n
  spelling : is_decimal n l ≡ true

digits_spelled : (l : List ℕ) → All DecimalDigit l → 0 < length l → (get_or l 0 0 ≡ 48 → length l ≡ 1) → decimal (number_of l) ≡ l
digits_spelled [] d h k = absurd (omega arith)
digits_spelled (b ∷ []) d h k = decimal_unique b [] d (λ e. refl)
digits_spelled (b ∷ c ∷ l) d h k = decimal_unique b (c ∷ l) d (λ e. absurd (omega (arith, k e)))

width_spelled : (n : ℕ) (l : List ℕ) {d : List ℕ} {c : ℕ} → length l ≤ n → Run l d c → full_width n l c ≡ true → (l ≡ d) × Says n l
unfolding full_width is_decimal
width_spelled n l {d} {c} m r t =
    let p = pick_true (eqb c n) (pick (eqb (get_or l 0 0) 48) (eqb n 1) true) t in
    let k = eqb-true c n p.0 in
    let w : length l ≡ n = omega (arith, span_length r.span, span_fits r.span) in
    let g : Span l 0 d (length l) = rw (w ∙ sym k) r.span in
    let q : l ≡ d = whole_span g in
    let all : All DecimalDigit l = rw q r.all in
    let o = ap length q in
    let x = digits_spelled l all (omega (arith, r.some)) (λ z. w ∙ one p.1 z) in
    (q, record { whole = w; spelling = rw (eq-eqb (length l) n w, x) (same_same l) })
  where
    one : pick (eqb (get_or l 0 0) 48) (eqb n 1) true ≡ true → get_or l 0 0 ≡ 48 → n ≡ 1
    one e z = eqb-true n 1 (rw (eq-eqb (get_or l 0 0) 48 z) at e)

-- ---- the code's ways out

module _ (max n : ℕ) (s : List ℕ) (at : ℕ) {l : List ℕ} (q : l ≡ take n (drop at s)) where
  -- what a number of full width is
  width_says : {v c : ℕ} {t : Bool} → number v c ≡ digits_at max l 0 → t ≡ full_width n l c → t ≡ true → (v ≤ max) × (number_of l ≡ v) × Says n l
  width_says e f y =
      let x = consumes_number max l 0 (sym e) in
      let r = width_spelled n l (part_most n s at q) (record { all = x.1; some = x.2; span = x.3 }) (sym f ∙ y) in
      (x.6, ap number_of r.0 ∙ x.5, r.1)

  pub number_fits : {v c : ℕ} {t : Bool} → number v c ≡ digits_at max l 0 → t ≡ full_width n l c → t ≡ true → n ≤ length s - at
  number_fits e f y = part_fits n s at q (width_says e f y).2.whole

module _ (max refusal past n : ℕ) (s : List ℕ) (at : ℕ) {l : List ℕ} (q : l ≡ take n (drop at s)) where
  pub number_yes : {v c : ℕ} {t : Bool} → number v c ≡ digits_at max l 0 → t ≡ full_width n l c → t ≡ true → read v (at + n) ≡ up_to max past at (decimal_at refusal n s at)
  unfolding decimal_at
  number_yes {v} {c} e f y =
      let r = width_says max n s at q e f y in
      let w = rw q at r.2.spelling in
      let o : number_of (take n (drop at s)) ≡ v = ap number_of (sym q) ∙ r.1 in
      sym (rw (w, o, le-leb v max r.0) refl)

  pub over_yes : {c : ℕ} {t : Bool} → over c ≡ digits_at max l 0 → t ≡ full_width n l c → t ≡ true → refused past at ≡ up_to max past at (decimal_at refusal n s at)
  unfolding decimal_at
  over_yes {c} e f y =
      let x = consumes_over max l 0 (sym e) in
      let r = width_spelled n l (part_most n s at q) (record { all = x.1; some = x.2; span = x.3 }) (sym f ∙ y) in
      let w = rw q at r.1.spelling in
      let o : number_of (take n (drop at s)) ≡ number_of x.0 = ap number_of (sym q ∙ r.0) in
      sym (rw (w, o, lt-leb (number_of x.0) max x.5) refl)

  no : is_decimal n l ≡ false → refused refusal at ≡ up_to max past at (decimal_at refusal n s at)
  unfolding decimal_at
  no e = let w = rw q at e in sym (rw w refl)

  narrow : {c : ℕ} {t : Bool} → end_of (digits_at max l 0) ≡ c → t ≡ full_width n l c → t ≡ false → refused refusal at ≡ up_to max past at (decimal_at refusal n s at)
  narrow e f y = no (not_decimal n l (λ d. false_true (sym y ∙ f ∙ spelled_width max n l e d)))

  pub number_no : {v c : ℕ} {t : Bool} → number v c ≡ digits_at max l 0 → t ≡ full_width n l c → t ≡ false → refused refusal at ≡ up_to max past at (decimal_at refusal n s at)
  number_no e f y = narrow (ap end_of (sym e)) f y

  pub over_no : {c : ℕ} {t : Bool} → over c ≡ digits_at max l 0 → t ≡ full_width n l c → t ≡ false → refused refusal at ≡ up_to max past at (decimal_at refusal n s at)
  over_no e f y = narrow (ap end_of (sym e)) f y

  pub none_no : Digits.none ≡ digits_at max l 0 → refused refusal at ≡ up_to max past at (decimal_at refusal n s at)
  none_no e = no (not_decimal n l (λ d. let x = spelled max n l d in omega (arith, x.ends, x.some, ap end_of e)))

pub ruleset number_steps = (number_fits, number_yes, over_yes, number_no, over_no, none_no)

-- ten digits say no more than the ten-digit maximum
pub ten_digits : (refusal past : ℕ) (s : List ℕ) (at : ℕ) → up_to 9_999_999_999 past at (decimal_at refusal 10 s at) ≡ decimal_at refusal 10 s at
unfolding decimal_at
ten_digits refusal past s at = go (is_decimal 10 l) refl
  where
    l : List ℕ
    l = take 10 (drop at s)

    go : (b : Bool) → is_decimal 10 l ≡ b → up_to 9_999_999_999 past at (pick b (read (number_of l) (at + 10)) (refused refusal at)) ≡ pick b (read (number_of l) (at + 10)) (refused refusal at)
    go true e =
        let x = spelled 0 10 l e in
        let m = ten_length (number_of l) (sym (ap length x.text) ∙ x.count) in
        rw (le-leb (number_of l) 9_999_999_999 m.1) refl
    go false e = refl
