-- The place behind a byte that was seen fits a place: a byte that is not 0 stands within the input.
-- Each premise is what the code knows there: the byte that it read and the test that it passed.
use Prim.Native.Nat.{ℕ, ◌+◌, ◌<◌, ◌^◌}
use mathlib.Core.Path.{◌≡◌, sym, ap, ◌∙◌}
use mathlib.Core.Bool.{Bool, true, false}
use mathlib.Core.List.{List}
use mathlib.Core.Logic.{dite}
use native.Mathlib.Omega.{arith}
use native.Mathlib.Decide.{dec_lt}
use lib.ListN.{length, get_or}
use lib.Dec.{eqb}
use mir.Syntax.{w64}
use mir.Val.{Fits}
use borrow.Author.Tests.{eqb-false}
use Rattle.scan.proofs.Step.{byte_none, false_true}

-- a byte that is not 0 stands within the input
pub byte_positive : (s : List ℕ) (i b n : ℕ) → b ≡ get_or s i 0 → b ≡ n → 0 < n → i < length s
byte_positive s i b n e f z =
    dite (dec_lt i (length s)) (λ h. h) (λ g. let q = sym f ∙ e ∙ byte_none s i (omega (arith, g)) in absurd (omega arith))

pub byte_place : (s : List ℕ) (i b n : ℕ) → b ≡ get_or s i 0 → b ≡ n → eqb n 0 ≡ false → i < length s
byte_place s i b n e f z = let m = eqb-false n 0 z in byte_positive s i b n e f (omega (arith, m))

pub next_fits : (s : List ℕ) (i b n : ℕ) → length s < 2 ^ 64 → b ≡ get_or s i 0 → b ≡ n → eqb n 0 ≡ false → Fits w64 (i + 1)
next_fits s i b n l e f z = let h = byte_place s i b n e f z in omega arith

-- a byte that passes a test that 0 does not pass
pub flag_fits : (p : ℕ → Bool) (s : List ℕ) (i b : ℕ) (t : Bool) → length s < 2 ^ 64 → b ≡ get_or s i 0 → t ≡ p b → t ≡ true → p 0 ≡ false → Fits w64 (i + 1)
flag_fits p s i b t l e f g z =
    dite (dec_lt i (length s)) (λ h. omega arith)
    (λ n. absurd (false_true (sym z ∙ ap p (sym (byte_none s i (omega (arith, n))) ∙ sym e) ∙ sym f ∙ g)))
