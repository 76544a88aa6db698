-- White space, literals and numbers at a place against the grammar, in both directions.
-- Soundness is a walk over the definition (`Ends`, `Reads`); completeness matches the grammar and cuts the span at each
-- `++`.
use Prim.Native.Nat.{ℕ, ◌+◌, ◌≤◌}
use mathlib.Core.Path.{◌≡◌, refl, sym}
use mathlib.Core.Bool.{Bool, true, false}
use mathlib.Core.List.{List}
use native.Mathlib.Omega.{arith}
use lib.ListN.{length, get_or}
use lib.Dec.{eqb}
use borrow.Author.Tests.{le-leb, ne_eqb, eqb-true, eqb-false}
use Rattle.scan.specs.Choice.{pick}
use Rattle.scan.specs.Place.{within, run_at, stands_at}
use Rattle.scan.specs.Bytes.{also}
use Rattle.scan.specs.inner.Span.{here, step, Span}
use Rattle.scan.proofs.Step.{pick_by}
use Rattle.scan.proofs.SpanLaws.{join, cut, bite, seen, span_length, span_fits}
use Rattle.scan.proofs.PlaceLaws.{within_bounds, run_again, run_span, span_run, span_stands, stands_span}
use Rattle.scan.proofs.Reading.{Reads, reads, fails, pick_reads}
use Rattle.jsontext.specs.Grammar as json
use Rattle.jsontext.specs.Token.{Done, done, past, is_space, space_at, word_at, digits_or, minus_at, sign_at, int_at, frac_at, is_e, exp_at, number_from, unsigned_from, skip_number}
use Rattle.decimal.specs.Decimal.{DecimalDigit, digit, is_digit}

-- a piece of G stands from a to e
pub data Ends (G : List ℕ → Type 0) (s : List ℕ) (a : ℕ) : ℕ → Type 0 where
  ends : {l : List ℕ} {e : ℕ} → G l → Span s a l e → Ends G s a e

pick_ends : {G : List ℕ → Type 0} {s : List ℕ} {a : ℕ} (t : Bool) {x y : ℕ} → (t ≡ true → Ends G s a x) → (t ≡ false → Ends G s a y) → Ends G s a (pick t x y)
pick_ends true f g = f refl
pick_ends false f g = g refl

pub bind : {R : Type 0} {G : List ℕ → Type 0} {s : List ℕ} {a b : ℕ} → Ends G s a b → ((l : List ℕ) → G l → Span s a l b → R) → R
bind (ends {l = l} g r) k = k l g r

-- one of several bytes
key : (P : ℕ → Type 0) (b k : ℕ) (u : Bool) → P k → (u ≡ true → P b) → pick (eqb b k) true u ≡ true → P b
key P b k u p f = pick_by (λ (t : Bool). t ≡ true → P b) (eqb b k) (λ t e. rw (eqb-true b k t) p) (λ n. f)

-- ---- white space

to_space : (b : ℕ) → is_space b ≡ true → json.Space b
unfolding is_space
to_space b =
    key json.Space b 0x20 _ json.blank
    (key json.Space b 0x0A _ json.feed (key json.Space b 0x0D _ json.return (λ t. rw (eqb-true b 0x09 t) json.Space.tab)))

pub of_space : (b : ℕ) → json.Space b → is_space b ≡ true
unfolding is_space
of_space b json.blank = refl
of_space b json.Space.tab = refl
of_space b json.feed = refl
of_space b json.return = refl

-- consumes: white space is run over
pub space_consumes : (s : List ℕ) (a : ℕ) → Ends json.Ws s a (space_at s a)
unfolding space_at
space_consumes s a = let r = run_span is_space json.Space to_space s a in ends r.1 r.2

-- it goes on, and ends within the input
pub space_onward : (s : List ℕ) (a : ℕ) → a ≤ space_at s a
space_onward s a = go (space_consumes s a)
  where
    go : {G : List ℕ → Type 0} {e : ℕ} → Ends G s a e → a ≤ e
    go (ends g r) = omega (arith, span_length r)

pub space_inside : (s : List ℕ) (a : ℕ) → a ≤ length s → space_at s a ≤ length s
space_inside s a h = go (space_consumes s a)
  where
    go : {G : List ℕ → Type 0} {e : ℕ} → Ends G s a e → e ≤ length s
    go (ends g r) = omega (arith, span_length r, span_fits r)

-- accepts: white space behind which none follows
pub space_accepts : {s w : List ℕ} {a c : ℕ} → json.Ws w → Span s a w c → is_space (get_or s c 0) ≡ false → space_at s a ≡ c
unfolding space_at
space_accepts {s} g r n = span_run is_space json.Space of_space s g r (λ h. n)

-- ---- literals

-- consumes: a literal that is read stands there
pub word_consumes : (w s : List ℕ) (a : ℕ) → Reads (λ (x : Done) (l : List ℕ). l ≡ w) s a (word_at w s a)
unfolding word_at
word_consumes w s a = pick_reads (stands_at w s a) (λ t. reads {x = done} {l = w} {e = a + length w} refl (stands_span w s a t)) (λ f. fails)

-- accepts: a literal that stands there is read
pub word_accepts : {w s : List ℕ} {a c : ℕ} → Span s a w c → word_at w s a ≡ past c
unfolding word_at
word_accepts {w} {s} {a} {c} r = rw (span_stands r, ← span_length r)

-- ---- digits

to_digit : (b : ℕ) → is_digit b ≡ true → DecimalDigit b
to_digit b t = let r = within_bounds 0x30 0x39 b t in digit r.0 r.1

of_digit : (b : ℕ) → DecimalDigit b → is_digit b ≡ true
unfolding within
of_digit b (digit l h) = simp (le-leb 0x30 b l, le-leb b 0x39 h)

digits_consume : (s : List ℕ) (a : ℕ) → is_digit (get_or s a 0) ≡ true → Ends json.SomeDigits s a (run_at is_digit s a)
unfolding within
digits_consume s a t =
    let h = seen is_digit s a refl t in
    let e = run_again is_digit s a a true refl h (sym t) refl in
    let r = run_span is_digit DecimalDigit to_digit s (a + 1) in
    rw e (ends {e = run_at is_digit s (a + 1)} (json.digits (to_digit (get_or s a 0) t) r.1) (step h refl r.2))

digits_accept : {s l : List ℕ} {a c : ℕ} (other : ℕ) → json.SomeDigits l → Span s a l c → is_digit (get_or s c 0) ≡ false
    → (digits_or s a other ≡ c) × (is_digit (get_or s a 0) ≡ true)
unfolding digits_or
digits_accept {s} {a = a} other (json.digits {b = b} g m) (step h e r) n =
    let t : within 0x30 0x39 (get_or s a 0) ≡ true = rw e (of_digit b g) in
    (rw t (span_run is_digit DecimalDigit of_digit s (also g m) (step h e r) (λ k. n)), t)

-- a digit is none of the marks
digit_range : (b : ℕ) → is_digit b ≡ true → (0x30 ≤ b) × (b ≤ 0x39)
digit_range b t = within_bounds 0x30 0x39 b t

-- ---- the parts of a number, consumed

int_consumes : (s : List ℕ) (a : ℕ) → (int_at s a ≡ a → ⊥) → Ends json.Int s a (int_at s a)
unfolding int_at digits_or
int_consumes s a =
    pick_by (λ (e : ℕ). (e ≡ a → ⊥) → Ends json.Int s a e) (eqb (get_or s a 0) 0x30)
    (λ t n. ends {e = a + 1} json.zero (bite 0x30 refl t here))
    (λ f.
    pick_by (λ (e : ℕ). (e ≡ a → ⊥) → Ends json.Int s a e) (is_digit (get_or s a 0)) (λ t n. nonzero f t (digits_consume s a t))
    (λ g n. absurd (n refl)))
  where
    nonzero : {e : ℕ} → eqb (get_or s a 0) 0x30 ≡ false → is_digit (get_or s a 0) ≡ true → Ends json.SomeDigits s a e → Ends json.Int s a e
    nonzero f t (ends (json.digits {b = b} g m) (step h q r)) =
        let u = digit_range (get_or s a 0) t in
        let n = eqb-false (get_or s a 0) 0x30 f in
        ends (json.digit1_9 {b = b} (omega (arith, n)) (omega arith) m) (step h q r)

minus_consumes : (s : List ℕ) (a : ℕ) → Ends json.Minus s a (minus_at s a)
unfolding minus_at
minus_consumes s a = pick_ends _ (λ t. ends {e = a + 1} json.minus (bite 0x2D refl t here)) (λ f. ends json.no_minus here)

sign_consumes : (s : List ℕ) (a : ℕ) → Ends json.Sign s a (sign_at s a)
unfolding sign_at minus_at
sign_consumes s a =
    pick_ends _ (λ t. ends {e = a + 1} json.plus_sign (bite 0x2B refl t here))
    (λ f. pick_ends _ (λ t. ends {e = a + 1} json.minus_sign (bite 0x2D refl t here)) (λ g. ends json.no_sign here))

frac_consumes : (s : List ℕ) (a : ℕ) → Ends json.Frac s a (frac_at s a)
unfolding frac_at digits_or
frac_consumes s a =
    pick_ends _
    (λ t.
    pick_ends _ (λ u. bind (digits_consume s (a + 1) u) (λ l g r. ends (json.frac g) (bite 0x2E refl t r))) (λ u. ends json.no_frac here))
    (λ t. ends json.no_frac here)

to_e : (b : ℕ) → is_e b ≡ true → json.E b
unfolding is_e
to_e b = key json.E b 0x65 _ json.E.small (λ t. rw (eqb-true b 0x45 t) json.E.capital)

exp_consumes : (s : List ℕ) (a : ℕ) → Ends json.Exp s a (exp_at s a)
unfolding exp_at digits_or is_e
exp_consumes s a =
    pick_ends (is_e (get_or s a 0))
    (λ t.
    pick_ends _
    (λ u.
    bind (sign_consumes s (a + 1))
    (λ g x q.
    bind (digits_consume s (sign_at s (a + 1)) u)
    (λ l y r. ends (json.exp (to_e (get_or s a 0) t) x y) (step (seen is_e s a refl t) refl (join q r)))))
    (λ u. ends json.no_exp here))
    (λ t. ends json.no_exp here)

-- consumes: what is read as a number is one
pub number_consumes : (s : List ℕ) (a : ℕ) → Reads (λ (x : Done). json.Number) s a (skip_number s a)
unfolding skip_number unsigned_from number_from
number_consumes s a =
    pick_reads (eqb (int_at s (minus_at s a)) (minus_at s a)) (λ t. fails)
    (λ f.
    let i = minus_at s a in
    let j = int_at s i in
    bind (minus_consumes s a)
    (λ m g p.
    bind (int_consumes s i (eqb-false j i f))
    (λ n h q.
    bind (frac_consumes s j) (λ k x r. bind (exp_consumes s (frac_at s j)) (λ l y t. reads (json.Number.number g h x y) (join p (join q (join r t))))))))

-- ---- the parts of a number, accepted

-- a byte that can't lengthen a number
pub record Stop (b : ℕ) : Type 0 where
  pub no_digit : is_digit b ≡ false
  pub no_point : eqb b 0x2E ≡ false
  pub no_e : is_e b ≡ false

-- the end of the input, and each byte that may stand behind a value
pub stop_end : Stop 0
unfolding within is_e
stop_end = record { no_digit = refl; no_point = refl; no_e = refl }

pub stop_comma : Stop 0x2C
unfolding within is_e
stop_comma = record { no_digit = refl; no_point = refl; no_e = refl }

pub stop_bracket : Stop 0x5D
unfolding within is_e
stop_bracket = record { no_digit = refl; no_point = refl; no_e = refl }

pub stop_brace : Stop 0x7D
unfolding within is_e
stop_brace = record { no_digit = refl; no_point = refl; no_e = refl }

pub stop_space : {b : ℕ} → json.Space b → Stop b
unfolding within is_e
stop_space json.blank = record { no_digit = refl; no_point = refl; no_e = refl }
stop_space json.Space.tab = record { no_digit = refl; no_point = refl; no_e = refl }
stop_space json.feed = record { no_digit = refl; no_point = refl; no_e = refl }
stop_space json.return = record { no_digit = refl; no_point = refl; no_e = refl }

mark : {b : ℕ} → json.E b → (is_e b ≡ true) × (is_digit b ≡ false) × (eqb b 0x2E ≡ false)
unfolding within is_e
mark json.E.small = (refl, refl, refl)
mark json.E.capital = (refl, refl, refl)

digit_zero : is_digit 0x30 ≡ true
unfolding within
digit_zero = refl

sign_accepts : {s l : List ℕ} {a c : ℕ} → json.Sign l → Span s a l c → is_digit (get_or s c 0) ≡ true → sign_at s a ≡ c
unfolding sign_at minus_at
sign_accepts {s} {a = a} json.no_sign here t =
    let r = digit_range (get_or s a 0) t in
    rw (ne_eqb (get_or s a 0) 0x2B (λ e. omega arith), ne_eqb (get_or s a 0) 0x2D (λ e. omega arith))
sign_accepts json.minus_sign (step h e here) t = rw e
sign_accepts json.plus_sign (step h e here) t = rw e

minus_accepts : {s l : List ℕ} {a c : ℕ} → json.Minus l → Span s a l c → is_digit (get_or s c 0) ≡ true → minus_at s a ≡ c
unfolding minus_at
minus_accepts {s} {a = a} json.no_minus here t =
    let r = digit_range (get_or s a 0) t in
    rw (ne_eqb (get_or s a 0) 0x2D (λ e. omega arith))
minus_accepts json.minus (step h e here) t = rw e

exp_accepts : {s l : List ℕ} {a c : ℕ} → json.Exp l → Span s a l c → Stop (get_or s c 0)
    → (exp_at s a ≡ c) × (is_digit (get_or s a 0) ≡ false) × (eqb (get_or s a 0) 0x2E ≡ false)
unfolding exp_at
exp_accepts json.no_exp here st = (rw st.no_e, st.no_digit, st.no_point)
exp_accepts {s} {a = a} (json.exp {b = b} {g = g} e x y) (step h q r) st =
    let u = cut g r in
    let d = digits_accept a y u.2 st.no_digit in
    let m = mark e in
    (rw (q, m.0, sign_accepts x u.1 d.1) d.0, rw q m.1, rw q m.2)

frac_accepts : {s l : List ℕ} {a c : ℕ} → json.Frac l → Span s a l c → is_digit (get_or s c 0) ≡ false → eqb (get_or s c 0) 0x2E ≡ false
    → (frac_at s a ≡ c) × (is_digit (get_or s a 0) ≡ false)
unfolding frac_at within
frac_accepts json.no_frac here f g = (rw g, f)
frac_accepts {s} {a = a} (json.frac d) (step h q r) f g = let u = digits_accept a d r f in (rw q u.0, rw q)

int_accepts : {s l : List ℕ} {a c : ℕ} → json.Int l → Span s a l c → is_digit (get_or s c 0) ≡ false
    → (int_at s a ≡ c) × (is_digit (get_or s a 0) ≡ true)
unfolding int_at
int_accepts {s} {a = a} json.zero (step h q here) n = (rw q, rw q digit_zero)
int_accepts {s} {a = a} (json.digit1_9 {b = b} {l = l} p t m) (step h q r) n =
    let g = digit {b = b} (omega arith) t in
    let d = digits_accept a (json.digits g m) (step h q r) n in
    (rw (q, ne_eqb b 0x30 (λ e. omega arith)) d.0, d.1)

-- accepts: a number behind which nothing stands that can lengthen it
pub number_accepts : {s l : List ℕ} {a c : ℕ} → json.Number l → Span s a l c → Stop (get_or s c 0) → skip_number s a ≡ past c
unfolding skip_number unsigned_from number_from
number_accepts {s} {a = a} (json.Number.number {m = m} {i = i} {f = f} n j g e) r st =
    let u = cut m r in
    let v = cut i u.2 in
    let w = cut f v.2 in
    let x = exp_accepts e w.2 st in
    let y = frac_accepts g w.1 x.1 x.2 in
    let z = int_accepts j v.1 y.1 in
    rw (minus_accepts n u.1 z.1, z.0, ne_eqb v.0 u.0 (int_some j v.1), y.0, x.0)
  where
    int_some : {l : List ℕ} {a c : ℕ} → json.Int l → Span s a l c → c ≡ a → ⊥
    int_some json.zero p e = omega (arith, span_length p)
    int_some (json.digit1_9 t u m) p e = omega (arith, span_length p)
