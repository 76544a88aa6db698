-- A range is its bounds; a fixed byte string stands at a place exactly where it is a span; a run is the longest span of
-- bytes that pass.
-- The loops of the code cite the laws of each turn and the ruleset `runs`; a grammar cites the four laws that speak of
-- `Span`.
use Prim.Native.Nat.{ℕ, zero, suc, ◌+◌, ◌-◌, ◌<◌, ◌≤◌}
use mathlib.Core.Path.{◌≡◌, refl, sym, ap, ◌∙◌}
use mathlib.Core.Bool.{Bool, true, false, cond}
use mathlib.Core.List.{List, [], ◌∷◌, ◌++◌}
use mathlib.Core.Logic.{dite}
use native.Mathlib.Omega.{arith}
use native.Mathlib.Decide.{dec_lt}
use lib.ListN.{length, get_or, drop, length-drop}
use lib.Dec.{leb, eqb}
use Rattle.std.specs.List.{prefix_len}
use Rattle.scan.specs.Choice.{pick}
use borrow.Author.Tests.{leb-true, eq-eqb, ne_eqb, eqb-true}
use Rattle.scan.specs.Place.{begins, stands_at, within, run, run_at}
use Rattle.scan.specs.Bytes.{All, none, also}
use Rattle.scan.specs.inner.Span.{here, step, Span}
use Rattle.scan.proofs.Step.{rest_none, rest_more, pick_by, pick_true, false_true}
use Rattle.scan.proofs.SpanLaws.{from_span, to_span, place, span_fits}

-- ---- a range

-- what passes the test of a range is in it
pub within_bounds : (low high b : ℕ) → within low high b ≡ true → (low ≤ b) × (b ≤ high)
unfolding within
within_bounds low high b h = let t = pick_true (leb low b) (leb b high) h in (leb-true low b t.0, leb-true b high t.1)

-- ---- a fixed byte string: where the loop stands

module _ (w s : List ℕ) (at i j : ℕ) where
  pub stands_again : stands_at w s at ≡ begins (drop j w) (drop i s) → j < length w → i < length s → get_or w j 0 ≡ get_or s i 0
      → stands_at w s at ≡ begins (drop (j + 1) w) (drop (i + 1) s)
  unfolding begins
  stands_again v h l e = v ∙ rw (rest_more w j, rest_more s i, eq-eqb _ _ e)

  pub stands_other : stands_at w s at ≡ begins (drop j w) (drop i s) → j < length w → i < length s → (get_or w j 0 ≡ get_or s i 0 → ⊥)
      → false ≡ stands_at w s at
  unfolding begins
  stands_other v h l n = sym (v ∙ rw (rest_more w j, rest_more s i, ne_eqb _ _ n))

  pub stands_whole : stands_at w s at ≡ begins (drop j w) (drop i s) → length w ≤ j → true ≡ stands_at w s at
  unfolding begins
  stands_whole v h = sym (v ∙ rw (rest_none w j))

pub stands_start : (w s : List ℕ) (at : ℕ) → stands_at w s at ≡ begins (drop 0 w) (drop at s)
unfolding stands_at
stands_start w s at = refl

-- ---- a fixed byte string as a span, in both directions

begins_append : (w l : List ℕ) → begins w (w ++ l) ≡ true
unfolding begins
begins_append [] l = refl
begins_append (b ∷ w) l = rw (eq-eqb b b refl) (begins_append w l)

-- accepts: where w is the span, it stands
pub span_stands : {s w : List ℕ} {at c : ℕ} → Span s at w c → stands_at w s at ≡ true
unfolding stands_at
span_stands {s} {w} {at} {c} p = rw (from_span p) (begins_append w (drop c s))

begins_rest : (w l : List ℕ) → begins w l ≡ true → (r : List ℕ) × (l ≡ w ++ r)
unfolding begins
begins_rest [] l h = (l, refl)
begins_rest (b ∷ w) [] h = absurd (false_true h)
begins_rest (b ∷ w) (c ∷ l) h =
    let t = pick_true (eqb b c) (begins w l) h in
    let e = eqb-true b c t.0 in
    let r = begins_rest w l t.1 in
    let f = r.1 in
    (r.0, cc)

-- consumes: where w stands, it is the span
pub stands_span : (w s : List ℕ) (at : ℕ) → stands_at w s at ≡ true → Span s at w (at + length w)
unfolding stands_at
stands_span w s at h = let r = begins_rest w (drop at s) h in to_span s w r.0 at r.1

-- it does not stand where too few bytes are left
pub stands_short : (w s : List ℕ) (at : ℕ) → length s - at < length w → false ≡ stands_at w s at
stands_short w s at h = go (stands_at w s at) refl
  where
    go : (t : Bool) → stands_at w s at ≡ t → false ≡ stands_at w s at
    go true e = absurd (omega (arith, h, span_fits (stands_span w s at e)))
    go false e = sym e

-- ---- a run: where the loop stands

module _ (p : ℕ → Bool) (s : List ℕ) (at i : ℕ) where
  pub run_again : (t : Bool) → run_at p s at ≡ run_at p s i → i < length s → t ≡ p (get_or s i 0) → t ≡ true → run_at p s at ≡ run_at p s (i + 1)
  unfolding run_at run
  run_again t v h e k = v ∙ rw (rest_more s i, ← e, k)

  pub run_left : run_at p s at ≡ run_at p s i → length s ≤ i → i ≡ run_at p s at
  unfolding run_at run
  run_left v h = sym (v ∙ rw (rest_none s i))

  pub run_broke : (t : Bool) → run_at p s at ≡ run_at p s i → i < length s → t ≡ p (get_or s i 0) → t ≡ false → i ≡ run_at p s at
  unfolding run_at run
  run_broke t v h e k = sym (v ∙ rw (rest_more s i, ← e, k))

-- a block of bytes that pass
pub run_over : (p : ℕ → Bool) (s : List ℕ) (n i e : ℕ) → e ≡ i + n → e ≤ length s → ((k : ℕ) → i ≤ k → k < e → p (get_or s k 0) ≡ true) → run_at p s i ≡ run_at p s e
run_over p s zero i e q h f = let z : i ≡ e = omega arith in ap (run_at p s) z
run_over p s (suc n) i e q h f =
    run_again p s i i true refl (omega arith) (sym (f i (omega arith) (omega arith))) refl
    ∙ run_over p s n (i + 1) e (omega arith) h (λ k l m. f k (omega arith) m)

pub ruleset runs = (run_again, run_left, run_broke)

-- a run counted: so many bytes from the front pass
pub run_counted : (p : ℕ → Bool) (l : List ℕ) (i : ℕ) → i + prefix_len p l ≡ run p l i
unfolding run
run_counted p [] i = omega arith
run_counted p (b ∷ l) i = go (p b) (run_counted p l (i + 1))
  where
    go : (t : Bool) → i + 1 + prefix_len p l ≡ run p l (i + 1) → i + cond t (1 + prefix_len p l) 0 ≡ pick t (run p l (i + 1)) i
    go true e = omega (arith, e)
    go false e = omega arith

-- ---- a run as a span, in both directions

-- accepts: a span of bytes that pass, behind which none passes, is the run
pub span_run : (p : ℕ → Bool) (P : ℕ → Type 0) → ((b : ℕ) → P b → p b ≡ true) → (s : List ℕ) {a c : ℕ} {l : List ℕ}
    → All P l → Span s a l c → (c < length s → p (get_or s c 0) ≡ false) → run_at p s a ≡ c
unfolding run_at run
span_run p P good s {a} none here stop =
    dite (dec_lt a (length s)) (λ h. rw (rest_more s a h, stop h)) (λ n. rw (rest_none s a (omega (arith, n))))
span_run p P good s {a} {c} (also {b = b} k g) (step h e r) stop = rw (rest_more s a h, e, good b k) (span_run p P good s {a = a + 1} {c = c} g r stop)

-- consumes: what is run over is a span of bytes that pass
pub run_span : (p : ℕ → Bool) (P : ℕ → Type 0) → ((b : ℕ) → p b ≡ true → P b) → (s : List ℕ) (a : ℕ)
    → (l : List ℕ) × All P l × Span s a l (run_at p s a)
unfolding run_at run
run_span p P good s a = go (drop a s) a refl
  where
    go : (l : List ℕ) (i : ℕ) → drop i s ≡ l → (m : List ℕ) × All P m × Span s i m (run p l i)
    go [] i q = ([], none, here)
    go (b ∷ l) i q =
        let u = place s i b l q in
        pick_by (λ (e : ℕ). (m : List ℕ) × All P m × Span s i m e) (p b)
        (λ t. let r = go l (i + 1) u.2 in (b ∷ r.0, also (good b t) r.1, step u.0 u.1 r.2))
        (λ f. ([], none, here))

-- the byte at the end of a run does not pass
pub run_stops : (p : ℕ → Bool) (s : List ℕ) (a : ℕ) → run_at p s a < length s → p (get_or s (run_at p s a) 0) ≡ false
unfolding run_at run
run_stops p s a h = go (drop a s) a refl h
  where
    go : (l : List ℕ) (i : ℕ) → drop i s ≡ l → run p l i < length s → p (get_or s (run p l i) 0) ≡ false
    go [] i q = λ h. absurd (omega (arith, ap length q, length-drop i s))
    go (b ∷ l) i q =
        let u = place s i b l q in
        pick_by (λ (e : ℕ). e < length s → p (get_or s e 0) ≡ false) (p b) (λ t. go l (i + 1) u.2) (λ f h. rw u.1 f)
