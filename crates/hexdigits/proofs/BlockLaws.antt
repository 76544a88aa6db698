-- A text is all digits exactly if no byte of it counts as another: so a block with another byte decides, and behind a
-- block with none the rest does.
-- By induction on the text: its first byte is a digit, or it is not.
use Rattle.std.proofs.Common.{◌+◌, ◌≡◌, ◌≢◌, ℕ, List, [], ◌∷◌, false, refl, sym, ap, ◌∙◌, take, drop, take-append-drop, zero-add, arith}
use Rattle.std.specs.Prelude.{eqb}
use mathlib.Core.Logic.{dite}
use native.Mathlib.Decide.{dec_lt}
use borrow.Author.Tests.{lt-ltb, le-ltb, eq-eqb, ne_eqb}
use Rattle.scan.specs.Choice.{pick}
use Rattle.scan.specs.inner.Blocks.{sum_of}
use Rattle.hexdigits.specs.Hex.{value_of, all_digits}
use Rattle.hexdigits.specs.inner.Block.{is_other}
use Rattle.hexdigits.proofs.Texts.{digits_append}

pub digits_counted : (t : List ℕ) → all_digits t ≡ eqb (sum_of is_other t) 0
unfolding is_other sum_of all_digits
digits_counted [] = refl
digits_counted (b ∷ t) =
    dite (dec_lt (value_of b) 16) (λ p. rw (lt-ltb (value_of b) 16 p, zero-add) (digits_counted t))
    (λ q. rw (le-ltb (value_of b) 16 (omega (arith, q))) (sym (ne_eqb (1 + sum_of is_other t) 0 (λ e. omega arith))))

module _ (t : List ℕ) (n : ℕ) {x r : List ℕ} (p : x ≡ take n t) (q : r ≡ drop n t) where
  parts : all_digits t ≡ pick (eqb (sum_of is_other x) 0) (all_digits r) false
  parts = rw (p, q, ← digits_counted (take n t)) (ap all_digits (sym (take-append-drop n t)) ∙ digits_append (take n t) (drop n t))

  pub digits_more : sum_of is_other x ≡ 0 → all_digits t ≡ all_digits r
  digits_more e = parts ∙ rw (eq-eqb _ 0 e)

  pub digits_end : sum_of is_other x ≢ 0 → all_digits t ≡ false
  digits_end e = parts ∙ rw (ne_eqb _ 0 e)
