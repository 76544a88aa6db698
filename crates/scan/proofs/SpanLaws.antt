-- The laws of `Span`: spans join and are cut at `++`, have one length, and are what `drop` leaves.
-- By induction on the span or on the list; no reader occurs here.
use Prim.Native.Nat.{ℕ, zero, suc, ◌+◌, ◌-◌, ◌<◌, ◌≤◌}
use mathlib.Core.Path.{◌≡◌, refl, sym, ap, ◌∙◌, subst}
use mathlib.Core.Bool.{Bool, true, false}
use mathlib.Core.List.{List, [], ◌∷◌, ◌++◌, append-nil}
use mathlib.Core.Logic.{dite}
use native.Mathlib.Nat.{add-zero}
use native.Mathlib.Omega.{arith}
use native.Mathlib.Decide.{dec_lt}
use lib.ListN.{length, get_or, drop, take, take-append-drop}
use lib.Seq.{take_at}
use lib.Dec.{eqb}
use borrow.Author.Tests.{eqb-true}
use Rattle.scan.specs.inner.Span.{here, step, Span}
use Rattle.scan.proofs.Step.{rest_more, rest_none, byte_none, false_true}

pub join : {s : List ℕ} {a b c : ℕ} {l m : List ℕ} → Span s a l b → Span s b m c → Span s a (l ++ m) c
join here q = q
join (step h e p) q = step h e (join p q)

pub cut : {s : List ℕ} {a c : ℕ} (l : List ℕ) {m : List ℕ} → Span s a (l ++ m) c → (b : ℕ) × Span s a l b × Span s b m c
cut {a = a} [] p = (a, here, p)
cut {s = s} {a = a} {c = c} (x ∷ l) {m = m} (step h e p) = let r = cut {s = s} {a = a + 1} {c = c} l {m = m} p in (r.0, step h e r.1, r.2)

pub open_span : {s : List ℕ} {a b c : ℕ} {l : List ℕ} → Span s a (b ∷ l) c → (a < length s) × (get_or s a 0 ≡ b) × Span s (a + 1) l c
open_span (step h e p) = (h, e, p)

-- the span of nothing
pub none_span : {s : List ℕ} {a c : ℕ} → Span s a [] c → a ≡ c
none_span here = refl

-- the span of one byte
pub close_span : {s : List ℕ} {a b c : ℕ} → Span s a (b ∷ []) c → (get_or s a 0 ≡ b) × (c ≡ a + 1)
close_span (step h e here) = (e, refl)

pub span_length : {s : List ℕ} {a c : ℕ} {l : List ℕ} → Span s a l c → c ≡ a + length l
span_length here = omega arith
span_length (step h e p) = omega (arith, span_length p)

-- a span cut behind its first n bytes
pub cut_at : {s : List ℕ} {a c : ℕ} (l : List ℕ) {m : List ℕ} (n : ℕ) → length l ≡ n → Span s a (l ++ m) c → Span s a l (a + n) × Span s (a + n) m c
cut_at {s} {a} {c} l {m} n e r = settle (cut l r)
  where
    settle : (b : ℕ) × Span s a l b × Span s b m c → Span s a l (a + n) × Span s (a + n) m c
    settle q = let k : q.0 ≡ a + n = span_length q.1 ∙ ap (λ (i : ℕ). a + i) e in (rw k at q.1, rw k at q.2)

-- a span lies within the input, so its length is at most what is left
pub span_fits : {s : List ℕ} {a c : ℕ} {l : List ℕ} → Span s a l c → length l ≤ length s - a
span_fits here = omega arith
span_fits (step h e p) = omega (arith, span_fits p)

pub span_unique : {s : List ℕ} {a c : ℕ} {l m : List ℕ} → Span s a l c → Span s a m c → l ≡ m
span_unique p q = at_ends p q refl
  where
    at_ends : {s : List ℕ} {a c d : ℕ} {l m : List ℕ} → Span s a l c → Span s a m d → c ≡ d → l ≡ m
    at_ends here here e = refl
    at_ends here (step h f p) e = absurd (omega (arith, span_length p))
    at_ends (step h f p) here e = absurd (omega (arith, span_length p))
    at_ends (step h f p) (step k g q) e = let u = at_ends p q e in cc

-- what the bytes from a on begin with
pub from_span : {s : List ℕ} {a c : ℕ} {l : List ℕ} → Span s a l c → drop a s ≡ l ++ drop c s
from_span here = refl
from_span {s} {a} (step {b = b} {c = c} {l = l} h e p) = rest_more s a h ∙ ap (λ (x : ℕ). x ∷ drop (a + 1) s) e ∙ ap (λ (t : List ℕ). b ∷ t) (from_span p)

-- the span of the whole input
pub whole_span : {s l : List ℕ} → Span s 0 l (length s) → s ≡ l
whole_span {s} {l} p = from_span p ∙ rw (rest_none s (length s) (omega arith)) (append-nil l)

-- a byte that stands first in the rest
pub place : (s : List ℕ) (a b : ℕ) (r : List ℕ) → drop a s ≡ b ∷ r → (a < length s) × (get_or s a 0 ≡ b) × (drop (a + 1) s ≡ r)
place s a b r q =
    dite (dec_lt a (length s))
    (λ h. let e = sym (rest_more s a h) ∙ q in (h, (cc), (cc)))
    (λ n. let e = ap length (sym (rest_none s a (omega (arith, n))) ∙ q) in absurd (omega (arith, e)))

pub to_span : (s l r : List ℕ) (a : ℕ) → drop a s ≡ l ++ r → Span s a l (a + length l)
to_span s l r a q = go l a (a + length l) refl q
  where
    go : (l : List ℕ) (a c : ℕ) → c ≡ a + length l → drop a s ≡ l ++ r → Span s a l c
    go [] a c e q = let f : c ≡ a = omega arith in rw f here
    go (b ∷ l) a c e q = let p = place s a b (l ++ r) q in step p.0 p.1 (go l (a + 1) c (omega arith) p.2)

-- the input is a span of itself
pub input_span : (s : List ℕ) → Span s 0 s (length s)
input_span s = let k : 0 + length s ≡ length s = omega arith in rw k at (to_span s s [] 0 (sym (append-nil s)))

-- where a test that 0 does not pass is passed, the place is within the input
pub seen : (p : ℕ → Bool) (s : List ℕ) (a : ℕ) → p 0 ≡ false → p (get_or s a 0) ≡ true → a < length s
seen p s a z t =
    dite (dec_lt a (length s)) (λ h. h)
    (λ n. let e = ap p (byte_none s a (omega (arith, n))) in absurd (false_true (sym z ∙ sym e ∙ t)))

-- a byte that is not 0 before a span
pub bite : {s : List ℕ} {a c : ℕ} {l : List ℕ} (b : ℕ) → eqb 0 b ≡ false → eqb (get_or s a 0) b ≡ true → Span s (a + 1) l c → Span s a (b ∷ l) c
bite {s} {a} b z t p = step (seen (λ (x : ℕ). eqb x b) s a z t) (eqb-true (get_or s a 0) b t) p

-- byte k of a span
pub nth : {s : List ℕ} {a c : ℕ} {l : List ℕ} (k : ℕ) → Span s a l c → k < length l → get_or s (a + k) 0 ≡ get_or l k 0
nth k here h = absurd (omega arith)
nth {s} {a} zero (step h e p) q = rw add-zero e
nth {s} {a} (suc k) (step h e p) q =
    let f : a + suc k ≡ a + 1 + k = omega arith in
    rw f (nth k p (omega arith))

-- the bytes of a span, taken from the input by their number
pub part_of_span : {s l : List ℕ} {a c : ℕ} (n : ℕ) → length l ≡ n → Span s a l c → take n (drop a s) ≡ l
part_of_span {s} {l} {a} {c} n e r = rw (from_span r) (take_at l (drop c s) n e)

-- and n bytes, if they are there, are a span
pub span_of_part : (s : List ℕ) (a n : ℕ) → length (take n (drop a s)) ≡ n → Span s a (take n (drop a s)) (a + n)
span_of_part s a n e = rw e at (to_span s (take n (drop a s)) (drop n (drop a s)) a (sym (take-append-drop n (drop a s))))

-- the same bytes, written in another way
pub respell : {s l m : List ℕ} {a c : ℕ} → l ≡ m → Span s a l c → Span s a m c
respell {s} {a = a} {c = c} e r = subst (λ (k : List ℕ). Span s a k c) e r
