-- The loops over a spelled string go from run to run: bytes without a backslash, then an escape. What each of the two
-- adds to the text.
-- The run by `run_span`, the escape by `unescape_escape`; both end within the string, so that no place and no length
-- wraps.
use Prim.Native.Nat.{ℕ, ◌+◌, ◌-◌, ◌<◌, ◌≤◌, ◌^◌}
use mathlib.Core.Path.{◌≡◌, sym, ap, ◌∙◌}
use mathlib.Core.Bool.{Bool, true, false}
use mathlib.Core.List.{List, [], ◌++◌}
use native.Mathlib.Omega.{arith}
use lib.ListN.{length, get_or, take, drop, length-append, length-take, length-drop}
use lib.Seq.{take_at}
use lib.Dec.{eqb}
use borrow.Author.Tests.{eq-eqb, ne_eqb, eqb-true}
use mir.Syntax.{w64}
use mir.Val.{Fits}
use Rattle.scan.specs.Bytes.{All}
use Rattle.scan.specs.inner.Span.{Span}
use Rattle.scan.proofs.Step.{pick_by, rest_none, false_true}
use Rattle.scan.proofs.SpanLaws.{whole_span, from_span, span_length, span_fits}
use Rattle.scan.proofs.PlaceLaws.{run_span, run_stops}
use Rattle.utf8.specs.Encode.{encode}
use Rattle.utf8.proofs.EncodeLaws.{encode_one}
use Rattle.jsontext.specs.declared.Escape.{Escape}
use Rattle.jsontext.specs.inner.Escape.{escape_at, or_itself, unescape}
use Rattle.jsonunescape.specs.inner.Run.{no_backslash, backslash_at}
use Rattle.jsontext.proofs.EscapeLaws.{EscapeAt, escape_is, no_escape_lem, escape_at_lem}
use Rattle.jsontext.proofs.Meaning.{unescape_none, unescape_plain, unescape_itself, unescape_escape}

-- ---- a run of bytes without a backslash

to_plain : (b : ℕ) → no_backslash b ≡ true → b ≡ 0x5C → ⊥
unfolding no_backslash
to_plain b t e = false_true (rw (eq-eqb b 0x5C e) at t)

of_plain : (b : ℕ) → no_backslash b ≡ false → b ≡ 0x5C
unfolding no_backslash
of_plain b = pick_by (λ (x : Bool). x ≡ false → b ≡ 0x5C) (eqb b 0x5C) (λ t f. eqb-true b 0x5C t) (λ n f. absurd (false_true (sym f)))

module _ (t : List ℕ) (i : ℕ) {e : ℕ} (q : e ≡ backslash_at t i) where
  plain_span : (l : List ℕ) × All (λ (b : ℕ). b ≡ 0x5C → ⊥) l × Span t i l e
  unfolding backslash_at
  plain_span = let r = run_span no_backslash (λ (b : ℕ). b ≡ 0x5C → ⊥) to_plain t i in (r.0, r.1, rw q r.2)

  -- it goes on, and ends within the string
  pub run_onward : i ≤ e
  run_onward = omega (arith, span_length plain_span.2)

  pub run_inside : i ≤ length t → e ≤ length t
  run_inside h = omega (arith, span_length plain_span.2, span_fits plain_span.2)

  -- a backslash stands behind it, or the end
  pub run_slash : e < length t → get_or t e 0 ≡ 0x5C
  unfolding backslash_at
  run_slash h = of_plain (get_or t e 0) (rw q (run_stops no_backslash t i (rw q at h)))

  -- it stands for itself
  pub unescape_run : unescape (drop i t) ≡ take (e - i) (drop i t) ++ unescape (drop e t)
  unescape_run =
      let r = plain_span in
      let f = from_span r.2 in
      let n : length r.0 ≡ e - i = omega (arith, span_length r.2) in
      let k : take (e - i) (drop i t) ≡ r.0 = ap (λ (m : List ℕ). take (e - i) m) f ∙ take_at r.0 (drop e t) (e - i) n in
      ap unescape f ∙ unescape_plain r.1 (drop e t) ∙ ap (λ (m : List ℕ). m ++ unescape (drop e t)) (sym k)

  -- and as long as it is
  pub length_run : i ≤ length t → length (unescape (drop i t)) ≡ e - i + length (unescape (drop e t))
  length_run h =
      let m = run_inside h in
      let k : length (take (e - i) (drop i t)) ≡ e - i = simp (length-take, length-drop) (omega arith) in
      ap length unescape_run ∙ length-append (take (e - i) (drop i t)) (unescape (drop e t)) ∙ ap (λ (n : ℕ). n + length (unescape (drop e t))) k

-- a string that is one run is its own text
pub unescape_whole : (t : List ℕ) {e : ℕ} → e ≡ backslash_at t 0 → length t ≤ e → unescape t ≡ t
unescape_whole t {e} q h = go (plain_span t 0 q) (omega (arith, run_inside t 0 q (omega arith)))
  where
    go : (l : List ℕ) × All (λ (b : ℕ). b ≡ 0x5C → ⊥) l × Span t 0 l e → e ≡ length t → unescape t ≡ t
    go r n = let w = whole_span (rw n at r.2) in ap unescape w ∙ unescape_itself r.1 ∙ sym w

-- nothing is left behind the end
pub unescape_end : (t : List ℕ) (i : ℕ) → length t ≤ i → unescape (drop i t) ≡ []
unescape_end t i h = rw (rest_none t i h) unescape_none

-- ---- an escape, or a backslash by itself

-- it ends within the string, and what it stands for is no longer than itself
pub record Taken (t : List ℕ) (i : ℕ) (x : Escape) : Type 0 where
  pub some : 1 ≤ x.width
  pub inside : i + x.width ≤ length t
  pub shorter : length (encode x.scalar) ≤ x.width

pub taken : (t : List ℕ) (i : ℕ) {x : Escape} → i < length t → get_or t i 0 ≡ 0x5C → x ≡ or_itself (escape_at t i) → Taken t i x
unfolding or_itself
taken t i h q f = rw f (go (escape_at_lem t i q))
  where
    go : {x : Escape} → EscapeAt t i x → Taken t i (or_itself x)
    go (escape_is {w = w} {n = n} g c r k j m o) =
        rw (ne_eqb w 0 (λ z. omega arith)) (record { some = j; inside = omega (arith, h, k, span_fits r); shorter = o })
    go no_escape_lem = record { some = omega arith; inside = omega arith; shorter = rw (encode_one 0x5C (omega arith)) (omega arith) }

-- the length of the text falls by what the escape stands for
pub length_escape : (t : List ℕ) (i : ℕ) {x : Escape} → i < length t → get_or t i 0 ≡ 0x5C → x ≡ or_itself (escape_at t i)
    → length (unescape (drop i t)) ≡ length (encode x.scalar) + length (unescape (drop (i + x.width) t))
length_escape t i {x} h q f = ap length (unescape_escape t i h q f) ∙ length-append (encode x.scalar) (unescape (drop (i + x.width) t))

-- ---- a turn of a loop: the run from i to e, and the escape at e

module _ (t : List ℕ) (i e : ℕ) (x : Escape) (q : e ≡ backslash_at t i) (h : e < length t) (f : x ≡ or_itself (escape_at t e)) where
  -- the backslash is there, and its escape ends within the string
  pub turn_taken : Taken t e x
  turn_taken = taken t e h (run_slash t i q h) f

  pub turn_fits : length t < 2 ^ 64 → Fits w64 (e + x.width)
  turn_fits l = omega (arith, turn_taken)

  pub turn_less : i < length t → length t - (e + x.width) < length t - i
  turn_less l = omega (arith, turn_taken, run_onward t i q)

  pub turn_inside : e + x.width ≤ length t
  turn_inside = turn_taken.inside

  -- what the run and the escape stand for, and then the rest
  pub turn_text : unescape (drop e t) ≡ encode x.scalar ++ unescape (drop (e + x.width) t)
  turn_text = unescape_escape t e h (run_slash t i q h) f

pub ruleset steps = (run_onward, turn_fits, turn_less, turn_inside)

-- ---- the length

-- n bytes of the text come before place i; they are no more than the spelled bytes
pub record Measured (t : List ℕ) (i n : ℕ) : Type 0 where
  pub total : n + length (unescape (drop i t)) ≡ length (unescape t)
  pub small : n ≤ i
  pub inside : i ≤ length t

pub measured_run : {t : List ℕ} {i n : ℕ} (e : ℕ) → e ≡ backslash_at t i → Measured t i n → Measured t e (n + (e - i))
measured_run {t} {i} e q m =
    let k = run_onward t i q in
    record {
      total = omega (arith, m.total, length_run t i q m.inside);
      small = omega (arith, m.small);
      inside = run_inside t i q m.inside;
    }

pub measured_escape : {t : List ℕ} {e n : ℕ} (x : Escape) (k : ℕ) → e < length t → get_or t e 0 ≡ 0x5C → x ≡ or_itself (escape_at t e) → k ≡ length (encode x.scalar)
    → Measured t e n → Measured t (e + x.width) (n + k)
measured_escape {t} {e} x k h q f r m =
    let u = taken t e h q f in
    record { total = omega (arith, m.total, length_escape t e h q f, r); small = omega (arith, m.small, u.shorter, r); inside = u.inside }

pub measured_all : {t : List ℕ} {i n : ℕ} → length t ≤ i → Measured t i n → n ≡ length (unescape t)
measured_all {t} {i} h m = omega (arith, m.total, ap length (unescape_end t i h))
