-- The width as the check had it before its cases were the rows of RFC 3629: by bounds of the first byte, and by the
-- range of the second behind it. `former_width` shows that it is the same on all numbers.
-- By the first byte: each row's law of `RowLaws` on one side, the former tests on the other; between the rows both are
-- 0.
use Prim.Native.Nat.{ℕ, ◌<◌, ◌≤◌}
use mathlib.Core.Path.{◌≡◌, refl, sym, ◌∙◌}
use mathlib.Core.Bool.{Bool, true, false, ◌&&◌}
use mathlib.Core.Logic.{dite}
use native.Mathlib.Omega.{arith}
use native.Mathlib.Decide.{dec_lt, ℕ_discrete}
use lib.Dec.{ltb, eqb}
use borrow.Author.Tests.{lt-ltb, le-ltb, lt-leb, ne_eqb}
use Rattle.scan.specs.Choice.{pick}
use Rattle.scan.specs.Place.{within}
use Rattle.utf8.specs.Utf8.{octet}
use Rattle.utf8.specs.inner.Width.{is_tail, width_of}
use Rattle.utf8.proofs.RowLaws.{past, at_one, at_two, at_E0, at_E1, at_ED, at_EE, at_F0, at_F1, at_F4}

-- ---- the definition as it was

abbrev second_low : ℕ → ℕ
second_low a = pick (eqb a 0xE0) 0xA0 (pick (eqb a 0xF0) 0x90 0x80)

abbrev second_high : ℕ → ℕ
second_high a = pick (eqb a 0xED) 0x9F (pick (eqb a 0xF4) 0x8F 0xBF)

abbrev two_of : ℕ → ℕ
two_of b = pick (is_tail b) 2 0

abbrev three_of : ℕ → ℕ → ℕ → ℕ
three_of a b c = pick (within (second_low a) (second_high a) b) (pick (is_tail c) 3 0) 0

abbrev four_of : ℕ → ℕ → ℕ → ℕ → ℕ
four_of a b c d = pick (within (second_low a) (second_high a) b) (pick (is_tail c) (pick (is_tail d) 4 0) 0) 0

unfoldable pub former_width : ℕ → ℕ → ℕ → ℕ → ℕ
former_width a b c d =
    pick (ltb a 0x80) 1
    (pick (ltb a 0xC2) 0 (pick (ltb a 0xE0) (two_of b) (pick (ltb a 0xF0) (three_of a b c) (pick (ltb a 0xF5) (four_of a b c d) 0))))

-- ---- it is the same

under : (low high b : ℕ) → b < low → within low high b ≡ false
unfolding within
under low high b h = simp (lt-leb low b h)

-- two tests in one, or one after the other
and_pick : (x y : Bool) (n : ℕ) → pick (x && y) n 0 ≡ pick x (pick y n 0) 0
and_pick true y n = refl
and_pick false y n = refl

module _ (a b c d : ℕ) where
  -- between the rows no sequence begins, nor past the last
  gap : 0x80 ≤ a → a < 0xC2 → width_of a b c d ≡ former_width a b c d
  unfolding width_of former_width
  gap h k =
      simp (
        past 0x00 0x7F a (omega arith) (omega arith),
        under 0xC2 0xDF a (omega arith),
        ne_eqb a 0xE0 (omega arith),
        under 0xE1 0xEC a (omega arith),
        ne_eqb a 0xED (omega arith),
        under 0xEE 0xEF a (omega arith),
        ne_eqb a 0xF0 (omega arith),
        under 0xF1 0xF3 a (omega arith),
        ne_eqb a 0xF4 (omega arith),
        le-ltb a 0x80 h,
        lt-ltb a 0xC2 k,
      )

  high : 0xF5 ≤ a → width_of a b c d ≡ former_width a b c d
  unfolding width_of former_width
  high h =
      simp (
        past 0x00 0x7F a (omega arith) (omega arith),
        past 0xC2 0xDF a (omega arith) (omega arith),
        ne_eqb a 0xE0 (omega arith),
        past 0xE1 0xEC a (omega arith) (omega arith),
        ne_eqb a 0xED (omega arith),
        past 0xEE 0xEF a (omega arith) (omega arith),
        ne_eqb a 0xF0 (omega arith),
        past 0xF1 0xF3 a (omega arith) (omega arith),
        ne_eqb a 0xF4 (omega arith),
        le-ltb a 0x80 (omega arith),
        le-ltb a 0xC2 (omega arith),
        le-ltb a 0xE0 (omega arith),
        le-ltb a 0xF0 (omega arith),
        le-ltb a 0xF5 h,
      )

  -- what it was in the rows of one, two, three and four bytes
  former_one : a < 0x80 → former_width a b c d ≡ 1
  unfolding former_width
  former_one h = simp (lt-ltb a 0x80 h)

  former_two : 0xC2 ≤ a → a < 0xE0 → former_width a b c d ≡ pick (is_tail b) 2 0
  unfolding former_width
  former_two h k = simp (le-ltb a 0x80 (omega arith), le-ltb a 0xC2 h, lt-ltb a 0xE0 k)

  former_three : 0xE0 ≤ a → a < 0xF0 → former_width a b c d ≡ pick (within (second_low a) (second_high a) b && is_tail c) 3 0
  unfolding former_width
  former_three h k = simp (le-ltb a 0x80 (omega arith), le-ltb a 0xC2 (omega arith), le-ltb a 0xE0 h, lt-ltb a 0xF0 k, and_pick)

  former_four : 0xF0 ≤ a → a < 0xF5 → former_width a b c d ≡ pick (within (second_low a) (second_high a) b && is_tail c && is_tail d) 4 0
  unfolding former_width
  former_four h k =
      simp (le-ltb a 0x80 (omega arith), le-ltb a 0xC2 (omega arith), le-ltb a 0xE0 (omega arith), le-ltb a 0xF0 h, lt-ltb a 0xF5 k, and_pick)

  -- behind other first bytes than E0, ED, F0 and F4 the second byte was any tail
  second : (a ≡ 0xE0 → ⊥) → (a ≡ 0xED → ⊥) → (a ≡ 0xF0 → ⊥) → (a ≡ 0xF4 → ⊥) → within (second_low a) (second_high a) b ≡ is_tail b
  second p q r t = simp (ne_eqb a 0xE0 p, ne_eqb a 0xED q, ne_eqb a 0xF0 r, ne_eqb a 0xF4 t)

  three : 0xE0 ≤ a → a < 0xF0 → width_of a b c d ≡ pick (within (second_low a) (second_high a) b && is_tail c) 3 0
  three h k =
      dite (ℕ_discrete a 0xE0) (λ e. rw e (at_E0 0 b c d))
      (λ n.
      dite (ℕ_discrete a 0xED) (λ e. rw e (at_ED 0 b c d))
      (λ m.
      let s = second (omega arith) m (omega arith) (omega arith) in
      dite (dec_lt a 0xED) (λ l. at_E1 a b c d (octet (omega (arith, n)) (omega arith)) ∙ rw s)
      (λ g. at_EE a b c d (octet (omega (arith, g, m)) (omega arith)) ∙ rw s)))

  four : 0xF0 ≤ a → a < 0xF5 → width_of a b c d ≡ pick (within (second_low a) (second_high a) b && is_tail c && is_tail d) 4 0
  four h k =
      dite (ℕ_discrete a 0xF0) (λ e. rw e (at_F0 0 b c d))
      (λ n.
      dite (ℕ_discrete a 0xF4) (λ e. rw e (at_F4 0 b c d))
      (λ m. at_F1 a b c d (octet (omega (arith, n)) (omega (arith, m))) ∙ rw (second (omega arith) (omega arith) n m)))

-- the width is what it was, on all numbers
pub former_width_lem : (a b c d : ℕ) → width_of a b c d ≡ former_width a b c d
former_width_lem a b c d =
    dite (dec_lt a 0x80) (λ h. at_one a b c d (octet (omega arith) (omega arith)) ∙ sym (former_one a b c d h))
    (λ n₁.
    dite (dec_lt a 0xC2) (gap a b c d (omega (arith, n₁)))
    (λ n₂.
    dite (dec_lt a 0xE0) (λ h. at_two a b c d (octet (omega (arith, n₂)) (omega arith)) ∙ sym (former_two a b c d (omega (arith, n₂)) h))
    (λ n₃.
    dite (dec_lt a 0xF0) (λ h. three a b c d (omega (arith, n₃)) h ∙ sym (former_three a b c d (omega (arith, n₃)) h))
    (λ n₄. dite (dec_lt a 0xF5) (λ h. four a b c d (omega (arith, n₄)) h ∙ sym (former_four a b c d (omega (arith, n₄)) h)) (λ n₅. high a b c d (omega (arith, n₅)))))))
