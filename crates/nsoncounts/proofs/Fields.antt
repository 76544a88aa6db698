-- A descriptor within a field of hex digits is hex digits: its own look may be left out.
-- What holds of all of a list holds of each part of it.
use Prim.Native.Nat.{ℕ, zero, suc, ◌+◌, ◌-◌, ◌≤◌}
use mathlib.Core.Path.{◌≡◌, refl, sym, ap, ◌∙◌}
use mathlib.Core.Bool.{Bool, true}
use mathlib.Core.List.{List, [], ◌∷◌}
use native.Mathlib.Omega.{arith}
use lib.ListN.{length, take, drop, length-drop}
use lib.Seq.{length-take-le, take-nil, take-take, drop-drop}
use lib.Dec.{eqb}
use borrow.Author.Tests.{eq-eqb, eqb-true}
use Rattle.scan.specs.Choice.{shown}
use Rattle.scan.specs.Bytes.{All, none, also}
use Rattle.scan.proofs.Step.{pick_true}
use Rattle.scan.proofs.AllLaws.{all_take}
use Rattle.hexdigits.specs.Hex.{all_digits}
use Rattle.hexdigits.specs.inner.LowerHex.{LowerHex}
use Rattle.hexdigits.proofs.Texts.{digits_pass, pass_digits}
use Rattle.nson.specs.Read.{hex_at}
use Rattle.nsoncounts.specs.inner.Counted.{is_hex}
use Rattle.nsoncounts.proofs.Laws.{part_fits}

part_all : {P : ℕ → Type 0} (k n m : ℕ) (l : List ℕ) → k + n ≤ m → All P (take m l) → All P (take n (drop k l))
part_all zero n m l h a = rw (take-take n m l (omega arith)) at (all_take n a)
part_all (suc k) n zero l h a = absurd (omega arith)
part_all (suc k) n (suc m) [] h a = rw (take-nil {A = ℕ} n) none
part_all (suc k) n (suc m) (x ∷ l) h (also p a) = part_all k n m l (omega arith) a

inside : (n end from at l : ℕ) → from ≤ at → at + n ≤ end → end - from ≤ l - from → n ≤ l - at
inside n end from at l h k r = omega arith

pub field_hex : (n end from : ℕ) (s : List ℕ) (at : ℕ) → is_hex (end - from) s from ≡ true → from ≤ at → at + n ≤ end → hex_at n s at ≡ shown (at + n)
unfolding is_hex hex_at
field_hex n end from s at d h k =
    let m = end - from in
    let l = drop from s in
    let u = pick_true (eqb (length (take m l)) m) (all_digits (take m l)) d in
    let back : from + (at - from) ≡ at = omega arith in
    let place : drop (at - from) l ≡ drop at s = drop-drop (at - from) from s ∙ ap (λ (i : ℕ). drop i s) back in
    let a : All LowerHex (take n (drop (at - from) l)) = part_all (at - from) n m l (omega arith) (pass_digits (take m l) u.1) in
    let b : All LowerHex (take n (drop at s)) = rw place at a in
    let fits = inside n end from at (length s) h k (part_fits m s from refl (eqb-true (length (take m l)) m u.0)) in
    let c = length-take-le n (drop at s) (rw (length-drop at s) fits) in
    rw (eq-eqb _ n c, digits_pass b) refl

-- a field of so many digits from its start is such a field; and from its end on nothing is asked
pub sized_all : (s : List ℕ) (size : ℕ) {t : Bool} → t ≡ is_hex size s 320 → t ≡ true → is_hex (320 + size - 320) s 320 ≡ true
sized_all s size e h = let k : 320 + size - 320 ≡ size = omega arith in rw k (sym e ∙ h)

pub sized_none : (s : List ℕ) (end : ℕ) → is_hex (end - end) s end ≡ true
unfolding is_hex
sized_none s end = let k : end - end ≡ 0 = omega arith in rw k (digits_pass none)

pub ruleset sized_steps = (sized_all, sized_none)
