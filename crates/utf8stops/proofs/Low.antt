-- Bytes of ASCII are passed in one step: each is a sequence of its own.
-- By induction on their number; the test of eight is put together byte by byte.
use Prim.Native.Nat.{ℕ, zero, suc, ◌+◌, ◌-◌, ◌<◌, ◌≤◌}
use mathlib.Core.Path.{◌≡◌, refl, ap, ◌∙◌}
use mathlib.Core.Bool.{Bool, true, false, ◌&&◌}
use mathlib.Core.List.{List}
use mathlib.Core.Logic.{dite}
use native.Mathlib.Nat.{add-zero}
use native.Mathlib.Omega.{arith}
use native.Mathlib.Decide.{ℕ_discrete}
use lib.ListN.{length, get_or}
use lib.Dec.{ltb}
use borrow.Author.Tests.{ltb-true}
use Rattle.scan.proofs.Step.{false_true}
use Rattle.utf8.proofs.WidthLaws.{width_ascii}
use Rattle.utf8stops.specs.Stops.{stop_at}
use Rattle.utf8stops.specs.inner.Pass.{Ascii}
use Rattle.utf8stops.proofs.StopLaws.{stop_step, stop_within}

-- n bytes of ASCII are passed in one step
pub stop_ascii : (n : ℕ) (d : List ℕ) (at : ℕ) → Ascii d at n → stop_at d at ≡ stop_at d (at + n)
stop_ascii zero d at a = let e : at ≡ at + 0 = omega arith in ap (λ (x : ℕ). stop_at d x) e
stop_ascii (suc n) d at a =
    let m = a.inside in
    let b : get_or d at 0 < 0x80 = rw (add-zero at) at (a.each 0 (omega arith)) in
    let w = width_ascii d at (omega arith) b in
    let r : Ascii d (at + 1) n = record { each = λ i h. later i h; inside = omega arith } in
    let e : at + 1 + n ≡ at + suc n = omega arith in
    stop_step d at (λ z. absurd (omega (arith, w, z))) ∙ ap (λ (x : ℕ). stop_at d (at + x)) w ∙ stop_ascii n d (at + 1) r ∙ ap (λ (x : ℕ). stop_at d x) e
  where
    later : (i : ℕ) → i < n → get_or d (at + 1 + i) 0 < 0x80
    later i h = let e : at + 1 + i ≡ at + suc i = omega arith in rw e (a.each (suc i) (omega arith))

pub ruleset steps = (stop_ascii, stop_within)

-- ---- the test of eight bytes

module _ (d : List ℕ) (at : ℕ) where
  ascii_none : at ≤ length d → Ascii d at 0
  ascii_none h = record { each = λ i k. absurd (omega arith); inside = omega arith }

  ascii_more : (n : ℕ) → at + n < length d → Ascii d at n → ltb (get_or d (at + n) 0) 128 ≡ true → Ascii d at (n + 1)
  ascii_more n h a e =
      record {
        each = λ i k. dite (ℕ_discrete i n) (λ q. rw q (ltb-true (get_or d (at + n) 0) 128 e)) (λ q. a.each i (omega (arith, k, q)));
        inside = omega arith;
      }

  -- one byte more behind those whose test is t
  also : (n : ℕ) → at + n < length d → (t : Bool) → (t ≡ true → Ascii d at n) → (t && ltb (get_or d (at + n) 0) 128) ≡ true → Ascii d at (n + 1)
  also n h true f e = ascii_more n h (f refl) e
  also n h false f e = absurd (false_true e)

  first : at < length d → ltb (get_or d at 0) 128 ≡ true → Ascii d at 1
  first h e = ascii_more 0 (omega arith) (ascii_none (omega arith)) (rw (add-zero at) e)

  pub ascii_eight : at ≤ length d → 8 ≤ length d - at
      → (
      ltb (get_or d at 0) 128 && ltb (get_or d (at + 1) 0) 128 && ltb (get_or d (at + 2) 0) 128 && ltb (get_or d (at + 3) 0) 128 &&
      ltb (get_or d (at + 4) 0) 128 && ltb (get_or d (at + 5) 0) 128 && ltb (get_or d (at + 6) 0) 128 && ltb (get_or d (at + 7) 0) 128
      ) ≡ true → Ascii d at 8
  ascii_eight g h =
      also 7 (omega arith) _ (also 6 (omega arith) _ (also 5 (omega arith) _ (also 4 (omega arith) _
      (also 3 (omega arith) _ (also 2 (omega arith) _ (also 1 (omega arith) _ (first (omega arith))))))))
