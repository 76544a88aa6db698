-- The turns of the walk over an array or an object. `InWalk` says that the walk from the opening bracket is the items
-- from here on, with fuel enough.
-- Each premise is what the loop knows; an item that is read over takes at least a byte, by soundness.
use Prim.Native.Nat.{ℕ, zero, suc, ◌+◌, ◌-◌, ◌<◌, ◌≤◌}
use mathlib.Core.Path.{◌≡◌, refl, sym, ◌∙◌}
use mathlib.Core.List.{List}
use native.Mathlib.Numerals.{sub-one}
use native.Mathlib.Omega.{arith}
use lib.ListN.{length, get_or}
use borrow.Author.Tests.{eq-eqb, ne_eqb}
use Rattle.scan.specs.Choice.{refused, and_then}
use Rattle.jsontext.specs.Token.{Skipped, past, space_at}
use Rattle.jsontext.specs.Value.{skip_item, skip_after, skip_items, skip_inside, value_at, skip_walk_by}
use Rattle.jsontext.specs.inner.Walk.{skip_walk}
use Rattle.scan.proofs.Fits.{byte_positive}
use Rattle.jsontext.proofs.TokenLaws.{space_onward, space_inside}
use Rattle.jsontext.proofs.ValueSound.{item_some}

-- ---- the items behind the opening bracket

-- the reader of an item, with one depth less
abbrev pub item_of : (depth close : ℕ) → List ℕ → ℕ → Skipped
item_of depth close s = skip_item close (value_at (depth - 1) s) s

pub record InWalk (s : List ℕ) (depth close at i : ℕ) : Type 0 where
  pub fuel : ℕ
  pub enough : length s < fuel + i
  pub inside : i ≤ length s
  pub same : skip_walk depth close s at ≡ skip_items close (item_of depth close s) fuel s i

walk_open : {depth : ℕ} → (depth ≡ 0 → ⊥) → (close : ℕ) (s : List ℕ) (at : ℕ) → skip_walk depth close s at ≡ skip_inside close (item_of depth close s) s (space_at s (at + 1))
unfolding skip_walk skip_walk_by
walk_open {depth = zero} h close s at = absurd (h refl)
walk_open {depth = suc depth} h close s at = rw sub-one

-- no depth is left
pub walk_shut : {depth : ℕ} (close : ℕ) (s : List ℕ) (at : ℕ) → depth ≡ 0 → refused 18 at ≡ skip_walk depth close s at
unfolding skip_walk
walk_shut {depth = zero} close s at h = refl
walk_shut {depth = suc depth} close s at h = absurd (omega arith)

module _ (s : List ℕ) (depth close at : ℕ) where
  -- nothing between the brackets
  pub walk_none : (first b : ℕ) → (depth ≡ 0 → ⊥) → first ≡ space_at s (at + 1) → b ≡ get_or s first 0 → b ≡ close → past (first + 1) ≡ skip_walk depth close s at
  unfolding skip_inside
  walk_none first b h e f q = sym (walk_open h close s at ∙ rw (← e, eq-eqb (get_or s first 0) close (sym f ∙ q)))

  -- the first item
  pub walk_start : (first b : ℕ) → (depth ≡ 0 → ⊥) → at < length s → first ≡ space_at s (at + 1) → b ≡ get_or s first 0 → (b ≡ close → ⊥) → InWalk s depth close at first
  unfolding skip_inside
  walk_start first b h l e f q = record {
    fuel = length s;
    enough = omega (arith, e, space_onward s (at + 1));
    inside = rw e (space_inside s (at + 1) (omega arith));
    same = walk_open h close s at ∙ rw (← e, ne_eqb (get_or s first 0) close (λ z. q (f ∙ z)));
  }

  module _ (i : ℕ) (r : Skipped) (v : InWalk s depth close at i) (e : r ≡ item_of depth close s i) where
    turn : skip_walk depth close s at ≡ and_then r (λ x. skip_after close (skip_items close (item_of depth close s) (v.fuel - 1) s) s (space_at s x.next))
    unfolding skip_items
    turn = v.same ∙ go v.fuel v.enough v.inside
      where
        go : (k : ℕ) → length s < k + i → i ≤ length s
            → skip_items close (item_of depth close s) k s i ≡ and_then r (λ x. skip_after close (skip_items close (item_of depth close s) (k - 1) s) s (space_at s x.next))
        go zero h n = absurd (omega arith)
        go (suc k) h n = let one : suc k - 1 ≡ k = omega arith in rw (e, one)

  -- an item is refused
  pub walk_refused : (i : ℕ) {n p : ℕ} → InWalk s depth close at i → refused n p ≡ item_of depth close s i → refused n p ≡ skip_walk depth close s at
  walk_refused i {n} {p} v e = sym (turn i (refused n p) v e)

  module _ (i next behind : ℕ) (v : InWalk s depth close at i) (e : past next ≡ item_of depth close s i) (g : behind ≡ space_at s next) where
    -- behind an item
    passed : skip_walk depth close s at ≡ skip_after close (skip_items close (item_of depth close s) (v.fuel - 1) s) s behind
    passed = turn i (past next) v e ∙ rw g

    -- the item took a byte or more, and ended within the input
    some_byte : (i < next) × (next ≤ length s)
    some_byte = item_some close (depth - 1) s i (sym e)

    module _ (b : ℕ) (h : b ≡ get_or s behind 0) where
      -- the closing bracket
      pub walk_closed : b ≡ close → past (behind + 1) ≡ skip_walk depth close s at
      unfolding skip_after
      walk_closed q = sym (passed ∙ rw (eq-eqb (get_or s behind 0) close (sym h ∙ q)))

      -- neither a bracket nor a comma
      pub walk_other : (b ≡ close → ⊥) → (b ≡ 0x2C → ⊥) → refused 14 behind ≡ skip_walk depth close s at
      unfolding skip_after
      walk_other n m =
          sym (passed ∙ rw (ne_eqb (get_or s behind 0) close (λ z. n (h ∙ z)), ne_eqb (get_or s behind 0) 0x2C (λ z. m (h ∙ z))))

      -- a comma: the next item stands further on
      further : (again : ℕ) → b ≡ 0x2C → again ≡ space_at s (behind + 1) → (i < again) × (again ≤ length s)
      further again m q =
          let c = byte_positive s behind b 0x2C h m (omega arith) in
          (omega (arith, q, some_byte, g, space_onward s next, space_onward s (behind + 1)), omega (arith, q, space_inside s (behind + 1) (omega arith)))

      pub walk_again : (again : ℕ) → (b ≡ close → ⊥) → b ≡ 0x2C → again ≡ space_at s (behind + 1) → InWalk s depth close at again
      unfolding skip_after
      walk_again again n m q =
          let u = further again m q in
          record {
            fuel = v.fuel - 1;
            enough = omega (arith, v.enough, v.inside, u);
            inside = u.1;
            same =
                passed
                ∙ rw (ne_eqb (get_or s behind 0) close (λ z. n (h ∙ z)), eq-eqb (get_or s behind 0) 0x2C (sym h ∙ m), ← q);
          }

      pub walk_less : (again : ℕ) → b ≡ 0x2C → again ≡ space_at s (behind + 1) → length s - again < length s - i
      walk_less again m q = omega (arith, v.inside, further again m q)

pub ruleset walks = (walk_shut, walk_none, walk_start, walk_refused, walk_closed, walk_other, walk_again, walk_less)
