-- Where a writer that began at the start of a buffer ends, and what then stands in front of that place.
-- By whether the text fits: else the buffer is full.
use Prim.Native.Nat.{ℕ, ◌+◌, ◌-◌, ◌≤◌, ◌<◌}
use mathlib.Core.Path.{◌≡◌, refl, sym, ap, ◌∙◌}
use mathlib.Core.List.{List, [], ◌∷◌, ◌++◌, append-nil}
use mathlib.Core.Logic.{dite}
use native.Mathlib.Nat.{zero-add}
use native.Mathlib.Omega.{arith}
use native.Mathlib.Decide.{dec_lt}
use lib.Seq.{take-append-le}
use lib.ListN.{length, take, drop, take-append-drop, length-take, length-drop, length-append}
use Rattle.buffer.specs.inner.Store.{Buffer, puts, Wrote}
use Rattle.scan.proofs.Step.{rest_none}
use Rattle.buffer.proofs.Laws.{puts_append, puts_eq, puts_full, cut}

take_front : (x y : List ℕ) → take (length x) (x ++ y) ≡ x
take_front [] y = refl
take_front (v ∷ x) y = ap (λ (l : List ℕ). v ∷ l) (take_front x y)

-- a text that fits
puts_fit : (d vs : List ℕ) → length vs ≤ length d → puts (d, 0) vs ≡ (vs ++ drop (length vs) d, length vs)
puts_fit d vs h = puts_eq d 0 vs (omega arith) ∙ rw zero-add

-- a text that does not
puts_over : (d vs : List ℕ) → length d < length vs → (puts (d, 0) vs).1 ≡ length d
puts_over d vs h =
    let n = length d in
    let x = take n vs in
    let y = drop n vs in
    let k : length x ≡ n = omega (arith, length-take n vs) in
    let e : puts (d, 0) vs ≡ puts (puts (d, 0) x) y = ap (λ (l : List ℕ). puts (d, 0) l) (sym (take-append-drop n vs)) ∙ sym (puts_append (d, 0) x y) in
    let b = x ++ drop (length x) d in
    let f = puts_full b (length x) y (omega (arith, length-append x (drop (length x) d), length-drop (length x) d, k)) in
    ap (λ (c : Buffer). c.1) (e ∙ ap (λ (c : Buffer). puts c y) (puts_fit d x (omega (arith, k))) ∙ f) ∙ k

-- no writer ends behind the buffer's end; where it ends before, all was written and stands there
pub record Ends (d vs d' : List ℕ) (r : ℕ) : Type 0 where
  pub most : r ≤ length d
  pub full : length d ≤ r → length d ≤ length vs
  pub place : r < length d → r ≡ length vs
  pub stands : r < length d → take r d' ≡ vs

pub ends : {d vs d' : List ℕ} {r : ℕ} → Wrote d 0 vs d' r → Ends d vs d' r
ends {d} {vs} {d'} {r} w =
    dite (dec_lt (length d) (length vs))
    (λ over.
    let e : r ≡ length d = ap (λ (c : Buffer). c.1) w.is ∙ puts_over d vs over in
    record { most = omega (arith, e); full = λ h. omega arith; place = λ h. absurd (omega (arith, e)); stands = λ h. absurd (omega (arith, e)) })
    (λ q.
    let fit : length vs ≤ length d = omega (arith, q) in
    let e : r ≡ length vs = ap (λ (c : Buffer). c.1) (w.is ∙ puts_fit d vs fit) in
    let f : d' ≡ vs ++ drop (length vs) d = ap (λ (c : Buffer). c.0) (w.is ∙ puts_fit d vs fit) in
    record { most = omega (arith, e); full = λ h. omega (arith, e); place = λ h. e; stands = λ h. rw (f, e) (take_front vs (drop (length vs) d)) })

-- a text that fits stands from the start
pub stands_whole : {d vs d' : List ℕ} {r : ℕ} → length vs ≤ length d → Wrote d 0 vs d' r → take r d' ≡ vs
stands_whole {d} {vs} {d'} {r} h w =
    let e : r ≡ length vs = ap (λ (c : Buffer). c.1) (w.is ∙ puts_fit d vs h) in
    let f : d' ≡ vs ++ drop (length vs) d = ap (λ (c : Buffer). c.0) (w.is ∙ puts_fit d vs h) in
    rw (f, e) (take_front vs (drop (length vs) d))

-- a writer with room ends behind its text
pub ends_behind : {d : List ℕ} {at : ℕ} {vs d' : List ℕ} {r : ℕ} → at + length vs ≤ length d → Wrote d at vs d' r → r ≡ at + length vs
ends_behind {d} {at} {vs} h w = ap (λ (b : Buffer). b.1) (w.is ∙ puts_eq d at vs h)

-- a text as long as the buffer is all that is in it
pub all_over : {d vs d' : List ℕ} {r : ℕ} → length vs ≡ length d → Wrote d 0 vs d' r → d' ≡ vs
all_over {d} {vs} h w =
    let e = ap (λ (b : Buffer). b.0) (w.is ∙ puts_eq d 0 vs (omega arith)) in
    let n : drop (0 + length vs) d ≡ [] = rest_none d (0 + length vs) (omega arith) in
    e ∙ ap (λ (l : List ℕ). vs ++ l) n ∙ append-nil vs

-- a full buffer leaves out what comes behind
pub past : {d : List ℕ} {at : ℕ} {x d' : List ℕ} {r : ℕ} (y : List ℕ) → length d ≤ at + length x → Wrote d at x d' r → Wrote d at (x ++ y) d' r
past {d} {at} {x} y h w =
    let n = length d - at in
    let e = take-append-le n x y (omega arith) in
    let u : puts (d, at) (take n x) ≡ puts (d, at) x = (cut {d = d} {at = at} {vs = x} (record { is = refl })).is in
    cut (record { is = w.is ∙ sym u ∙ ap (λ (vs : List ℕ). puts (d, at) vs) (sym e) })
