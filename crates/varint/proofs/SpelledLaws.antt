-- What the bytes of a list spell from its start is `Uleb` of the bytes in front, in both directions.
-- By induction on the spelling and on the list; ten bytes whose last is 01 are a number below 2 * 128 ^ 9, that
-- is 2 ^ 64.
use Prim.Native.Nat.{ℕ, zero, suc, ◌+◌, ◌*◌, ◌-◌, ◌^◌, ◌≤◌, ◌<◌}
use mathlib.Core.Path.{◌≡◌, refl, ap}
use mathlib.Core.List.{List, [], ◌∷◌, ◌++◌}
use native.Mathlib.Nat.{one-le-pow, pow-succ'}
use native.Mathlib.Omega.{arith}
use lib.ListN.{length}
use lib.Dec.{ltb, leb, eqb}
use borrow.Author.Tests.{lt-ltb, le-ltb, le-leb, ne_eqb, ltb-true, ltb-false, leb-true, eqb-false}
use Rattle.scan.specs.Bytes.{also, IsBytes}
use Rattle.scan.proofs.Step.{pick_by}
use Rattle.varint.specs.Uleb.{Uleb, last, more}
use Rattle.varint.specs.Varint.{Spelled, number, padded, over, cut, carry, spelled}
use Rattle.varint.proofs.UlebLaws.{digits_one}

-- a spelling in front of any bytes is what they spell
pub spelled_digits : {n : ℕ} {l : List ℕ} (left : ℕ) (r : List ℕ) → Uleb n l → length l ≤ suc left → n < 2 * 128 ^ left → spelled left (l ++ r) ≡ number n (length l)
unfolding spelled
spelled_digits zero r (last {b = b} h) k f = rw (le-leb b 1 (omega arith))
spelled_digits (suc left) r (last {b = b} h) k f = rw (lt-ltb b 128 h)
spelled_digits zero r (more h z u) k f = absurd (omega (arith, digits_one u))
spelled_digits (suc left) r (more {b = b} {n = n} {l = l} h z u) k f =
    let e : 128 + b - 128 ≡ b = omega arith in
    let i = spelled_digits {n = n} {l = l} left r u (omega arith) (omega (arith, f, pow-succ' 128 left)) in
    rw (le-ltb (128 + b) 128 (omega arith), e, i, ne_eqb n 0 (λ q. omega (arith, z, q)))

-- what t spells, where it is a number, is spelled by the bytes in front, if they are bytes
pub data Taken (left : ℕ) (t : List ℕ) : Spelled → Type 0 where
  taken : {n w : ℕ} (l r : List ℕ) → t ≡ l ++ r → w ≡ length l → 1 ≤ length l → length l ≤ suc left
      → (IsBytes l → Uleb n l × (n < 2 * 128 ^ left)) → Taken left t (number n w)
  taken_padded : Taken left t padded
  taken_over : Taken left t over
  taken_cut : Taken left t cut

taken_carry : {left : ℕ} {t : List ℕ} {x : Spelled} (b : ℕ) → 128 ≤ b → Taken left t x → Taken (suc left) (b ∷ t) (carry (b - 128) x)
taken_carry {left} {t} b h (taken {n = n} {w = w} l r e f g k u) =
    pick_by (Taken (suc left) (b ∷ t)) (eqb n 0) (λ _. taken_padded)
    (λ z. taken (b ∷ l) r (ap (λ (m : List ℕ). b ∷ m) e) (ap suc f) (omega arith) (omega arith) (more_bytes (eqb-false n 0 z)))
  where
    more_bytes : (n ≡ 0 → ⊥) → IsBytes (b ∷ l) → Uleb (b - 128 + 128 * n) (b ∷ l) × (b - 128 + 128 * n < 2 * 128 ^ suc left)
    more_bytes z (also y ys) =
        let v = u ys in
        let q : 128 + (b - 128) ≡ b = omega arith in
        (rw q at (more {b = b - 128} {n = n} (omega arith) (omega (arith, z)) v.0), omega (arith, v.1, pow-succ' 128 left))
taken_carry b h taken_padded = taken_padded
taken_carry b h taken_over = taken_over
taken_carry b h taken_cut = taken_cut

-- what is spelled is taken from the front
pub spelled_taken : (left : ℕ) (t : List ℕ) → Taken left t (spelled left t)
unfolding spelled
spelled_taken left [] = taken_cut
spelled_taken zero (b ∷ t) =
    pick_by (Taken zero (b ∷ t)) (leb b 1)
    (λ e. let h = leb-true b 1 e in taken (b ∷ []) t refl refl (omega arith) (omega arith) (λ y. (last {b = b} (omega arith), omega arith)))
    (λ e. taken_over)
spelled_taken (suc left) (b ∷ t) =
    pick_by (Taken (suc left) (b ∷ t)) (ltb b 128)
    (λ e.
    let h = ltb-true b 128 e in
    taken (b ∷ []) t refl refl (omega arith) (omega arith) (λ y. (last h, omega (arith, pow-succ' 128 left, one-le-pow left 128 (omega arith)))))
    (λ e. taken_carry b (ltb-false b 128 e) (spelled_taken left t))
