-- What is written over does not matter. A writer may store more than it moves on by, if what is left to write
-- is at least as long.
-- By induction on what was stored too much: a store before it does not touch it.
use Prim.Native.Nat.{ℕ, ◌+◌, ◌<◌, ◌≤◌}
use mathlib.Core.Path.{◌≡◌, refl, sym, ap, ◌∙◌}
use mathlib.Core.List.{List, [], ◌∷◌, ◌++◌}
use mathlib.Core.Logic.{dite}
use native.Mathlib.Omega.{arith}
use native.Mathlib.Decide.{dec_lt}
use lib.ListN.{length, set, length-set}
use lib.Seq.{set-set, set_comm}
use Rattle.buffer.specs.inner.Store.{Buffer, puts, Wrote}
use Rattle.buffer.proofs.Laws.{Left, byte, length_puts, puts_append, put_room, puts_full, puts_eq}

-- a store before the place where writing goes on
set_before : (d : List ℕ) (p q u : ℕ) (vs : List ℕ) → p < q → set (puts (d, q) vs).0 p u ≡ (puts (set d p u, q) vs).0
set_before d p q u [] h = refl
set_before d p q u (v ∷ vs) h =
    dite (dec_lt q (length d))
    (λ l.
    let a = put_room d q v l in
    let b = put_room (set d p u) q v (omega (arith, length-set d p u)) in
    let c : set (set d p u) q v ≡ set (set d q v) p u = set_comm d p q u v (λ e. omega arith) in
    ap (λ (k : Buffer). set (puts k vs).0 p u) a
    ∙ set_before (set d q v) p (q + 1) u vs (omega arith)
    ∙ sym (ap (λ (k : Buffer). (puts k vs).0) (b ∙ ap (λ (l : List ℕ). (l, q + 1)) c)))
    (λ g.
    let f : length d ≤ q = omega (arith, g) in
    ap (λ (k : Buffer). set k.0 p u) (puts_full d q (v ∷ vs) f)
    ∙ sym (ap (λ (k : Buffer). k.0) (puts_full (set d p u) q (v ∷ vs) (omega (arith, length-set d p u)))))

-- writing over what was written at the same place
over : (d : List ℕ) (p : ℕ) (y left : List ℕ) → length y ≤ length left → puts ((puts (d, p) y).0, p) left ≡ puts (d, p) left
over d p [] left h = refl
over d p (v ∷ y) [] h = absurd (omega arith)
over d p (v ∷ y) (u ∷ left) h =
    dite (dec_lt p (length d))
    (λ l.
    let more = (puts (set d p v, p + 1) y).0 in
    let a = put_room d p v l in
    let room = put_room more p u (omega (arith, length_puts (set d p v, p + 1) y, length-set d p v)) in
    let moved = set_before (set d p v) p (p + 1) u y (omega arith) ∙ ap (λ (k : List ℕ). (puts (k, p + 1) y).0) (set-set d p v u) in
    ap (λ (k : Buffer). puts ((puts k y).0, p) (u ∷ left)) a
    ∙ ap (λ (k : Buffer). puts k left) room
    ∙ ap (λ (k : List ℕ). puts (k, p + 1) left) moved
    ∙ over (set d p u) (p + 1) y left (omega arith)
    ∙ sym (ap (λ (k : Buffer). puts k left) (put_room d p u l)))
    (λ g. let f : length d ≤ p = omega (arith, g) in ap (λ (k : Buffer). puts (k.0, p) (u ∷ left)) (puts_full d p (v ∷ y) f))

-- with room, the place behind what was written
place : (d : List ℕ) (at : ℕ) (x : List ℕ) → at + length x ≤ length d → puts (d, at) x ≡ ((puts (d, at) x).0, at + length x)
place d at x h = ap (λ (n : ℕ). ((puts (d, at) x).0, n)) (ap (λ (b : Buffer). b.1) (puts_eq d at x h))

-- x and y were written, and the place is behind x: what is left goes over y
pub wide : {d : List ℕ} {at : ℕ} {all d' : List ℕ} {o : ℕ} {left d'' : List ℕ} {r : ℕ} (x y : List ℕ)
    → Left d at all d' o (x ++ left) → Wrote d' o (x ++ y) d'' r → length y ≤ length left → o + length x ≤ length d' → Left d at all d'' (o + length x) left
wide {d' = d'} {o = o} {left = left} x y l w h room =
    let p = o + length x in
    let first = (puts (d', o) x).0 in
    let at_x = place d' o x room in
    let stored = ap (λ (b : Buffer). b.0) (w.is ∙ sym (puts_append (d', o) x y) ∙ ap (λ (b : Buffer). puts b y) at_x) in
    record {
      is =
          ap (λ (k : List ℕ). puts (k, p) left) stored
          ∙ over first p y left h
          ∙ sym (ap (λ (b : Buffer). puts b left) at_x)
          ∙ puts_append (d', o) x left
          ∙ l.is;
    }

-- two bytes stored where there is room for both
pub two_bytes : {d : List ℕ} {at : ℕ} {all d' : List ℕ} {o v w : ℕ} {left : List ℕ}
    → o + 1 < length d' → Left d at all d' o (v ∷ w ∷ left) → Left d at all (set (set d' o v) (o + 1) w) (o + 2) left
two_bytes {d' = d'} {o = o} {v = v} h l =
    let two : o + 1 + 1 ≡ o + 2 = omega arith in
    rw two at (byte (simp length-set h) (byte (omega arith) l))
