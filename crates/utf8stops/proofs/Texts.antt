-- A text from a place on is well-formed exactly if it ends between two sequences before the place where they stop.
-- So the stop is found once for a start, and each end is one test.
use Prim.Native.Nat.{ℕ, zero, suc, ◌+◌, ◌-◌, ◌≤◌}
use mathlib.Core.Path.{◌≡◌, refl, sym, ap, subst, ◌∙◌}
use mathlib.Core.Bool.{Bool, true, false, ◌||◌}
use mathlib.Core.List.{List, [], ◌∷◌, ◌++◌}
use mathlib.Core.Logic.{dite}
use native.Mathlib.Omega.{arith}
use native.Mathlib.Decide.{dec_lt, ℕ_discrete}
use lib.ListN.{length, get_or, take, drop, length-take, length-drop, length-append, take-append-drop}
use lib.Dec.{leb, eqb}
use borrow.Author.Tests.{le-leb, leb-true, eq-eqb, eqb-true}
use Rattle.scan.specs.inner.Span.{Span, here}
use Rattle.scan.proofs.Step.{pick_true, false_true, not_so}
use Rattle.scan.proofs.SpanLaws.{cut, cut_at, open_span, span_length, span_unique, span_fits, span_of_part}
use Rattle.utf8.specs.Utf8.{Char, Utf8}
use Rattle.utf8.specs.Utf8 as utf8
use Rattle.utf8.specs.inner.Width.{is_tail, width_at, is_utf8}
use Rattle.utf8.proofs.WidthLaws.{width_accepts, width_consumes, char_length}
use Rattle.utf8.proofs.Laws.{is_utf8_lem}
use Rattle.utf8stops.specs.Stops.{stop_by, stop_at, ends_at}
use Rattle.utf8stops.proofs.Tails.{first_byte, inside}
use Rattle.utf8stops.proofs.StopLaws.{stop_none, stop_more, stop_zero, stop_least}

-- an end at or before the stop, at a byte that is no tail
ends_so : (s : List ℕ) (stop e : ℕ) → e ≤ stop → is_tail (get_or s e 0) ≡ false → ends_at s stop e ≡ true
unfolding ends_at
ends_so s stop e h t = rw (le-leb e stop h, t) (go (eqb e stop))
  where
    go : (x : Bool) → (x || true) ≡ true
    go true = refl
    go false = refl

ends_stop : (s : List ℕ) (stop e : ℕ) → e ≡ stop → ends_at s stop e ≡ true
unfolding ends_at
ends_stop s stop e h = rw (le-leb e stop (omega arith), eq-eqb e stop h)

-- ---- a well-formed text passes

pub text_ends : (fuel : ℕ) (s : List ℕ) {a e : ℕ} {l : List ℕ} → length s - a ≤ fuel → Utf8 l → Span s a l e → ends_at s (stop_by fuel s a) e ≡ true
text_ends fuel s {a} h utf8.none here =
    dite (ℕ_discrete (width_at s a) 0) (λ z. ends_stop s (stop_by fuel s a) a (sym (stop_none fuel s a z)))
    (λ n. let c = width_consumes s a n in ends_so s (stop_by fuel s a) a (stop_least fuel s a) (starts c.0 c.1 c.2))
  where
    starts : (c : List ℕ) {b : ℕ} → Char c → Span s a c b → is_tail (get_or s a 0) ≡ false
    starts [] g r = absurd (omega (arith, char_length g))
    starts (x ∷ c) g r = rw (open_span r).1 (first_byte g)
text_ends zero s {a} h (utf8.char {c = c} {l = l} g u) r = let f = span_fits r in absurd (omega (arith, char_length g, f, length-append c l))
text_ends (suc fuel) s {a} {e} h (utf8.char {c = c} g u) r =
    let k = cut c r in
    let w = width_accepts g k.1 in
    let i : a + width_at s a ≡ k.0 = omega (arith, w, span_length k.1) in
    let t = text_ends fuel s {a = k.0} (omega (arith, h, i, w, char_length g)) u k.2 in
    rw (stop_more fuel s a (λ z. absurd (omega (arith, z, w, char_length g))), i) t

-- ---- and nothing else does

ends_apart : (s : List ℕ) (stop e : ℕ) → ends_at s stop e ≡ true → (e ≤ stop) × (is_tail (get_or s e 0) ≡ true → e ≡ stop)
unfolding ends_at
ends_apart s stop e h =
    let t = pick_true (leb e stop) _ h in
    (leb-true e stop t.0, λ u. go (eqb e stop) refl (rw u at t.1))
  where
    go : (x : Bool) → eqb e stop ≡ x → (x || false) ≡ true → e ≡ stop
    go true q r = eqb-true e stop q
    go false q r = absurd (false_true r)

-- a text cut where a sequence ends
cut_off : (s : List ℕ) {a b e : ℕ} (l c : List ℕ) → Span s a c b → Span s a l e → b ≤ e → (m : List ℕ) × (l ≡ c ++ m) × Span s b m e
cut_off s {a} {b} {e} l c r q h =
    let n = length c in
    let x = span_length r in
    let y = span_length q in
    let z = sym (take-append-drop n l) in
    let k : length (take n l) ≡ n = simp length-take (omega arith) in
    let v = cut_at (take n l) n k (subst (λ (t : List ℕ). Span s a t e) z q) in
    let f : a + n ≡ b = omega arith in
    let i = span_unique (rw f at v.0) r in
    (drop n l, z ∙ ap (λ (t : List ℕ). t ++ drop n l) i, rw f at v.1)

-- one sequence, and then as the rest has it
ends_step : (fuel : ℕ) (s : List ℕ) (a e : ℕ) → ((b : ℕ) (m : List ℕ) → Span s b m e → ends_at s (stop_by fuel s b) e ≡ true → Utf8 m)
    → (l : List ℕ) → Span s a l e → ends_at s (stop_by (suc fuel) s a) e ≡ true → Utf8 l
ends_step fuel s a e rest [] r h = utf8.none
ends_step fuel s a e rest (x ∷ l) r h =
    let p = ends_apart s (stop_by (suc fuel) s a) e h in
    dite (ℕ_discrete (width_at s a) 0)
    (λ z. absurd (omega (arith, p.0, stop_none (suc fuel) s a z, span_length r)))
    (λ n.
    let c = width_consumes s a n in
    let m = stop_more fuel s a n in
    let i = stop_least fuel s (a + width_at s a) in
    dite (dec_lt e (a + width_at s a))
    (λ k. absurd (omega (arith, p.1 (inside s c.0 c.1 c.2 (omega (arith, span_length r)) k), m, i, k)))
    (λ k.
    let o = cut_off s (x ∷ l) c.0 c.2 r (omega (arith, k)) in
    rw o.1 (utf8.char c.1 (rest (a + width_at s a) o.0 o.2 (rw m at h)))))

pub ends_text : (fuel : ℕ) (s : List ℕ) (a e : ℕ) (l : List ℕ) → Span s a l e → ends_at s (stop_by fuel s a) e ≡ true → Utf8 l
ends_text zero s a e l r h = none_left l r
  where
    none_left : (l : List ℕ) → Span s a l e → Utf8 l
    none_left [] r = utf8.none
    none_left (x ∷ l) r = absurd (omega (arith, (ends_apart s (stop_by zero s a) e h).0, stop_zero s a, span_length r))
ends_text (suc fuel) s a e l r h = ends_step fuel s a e (λ b m q g. ends_text fuel s b e m q g) l r h

-- THE law: a part that lies in the input is well-formed exactly if it ends where the stop of its start allows it
pub ends_decides : (d : List ℕ) (a n : ℕ) → a + n ≤ length d → ends_at d (stop_at d a) (a + n) ≡ is_utf8 (take n (drop a d))
ends_decides d a n h =
    let k : length (take n (drop a d)) ≡ n = simp (length-take, length-drop) (omega arith) in
    let r = span_of_part d a n k in
    same (ends_at d (stop_at d a) (a + n)) (is_utf8 (take n (drop a d)))
    (λ t. (is_utf8_lem (take n (drop a d))).1 (ends_text (length d - a) d a (a + n) (take n (drop a d)) r t))
    (λ t. text_ends (length d - a) d (omega arith) ((is_utf8_lem (take n (drop a d))).0 t) r)
  where
    same : (x y : Bool) → (x ≡ true → y ≡ true) → (y ≡ true → x ≡ true) → x ≡ y
    same true y f g = sym (f refl)
    same false y f g = sym (not_so y (λ t. false_true (g t)))
