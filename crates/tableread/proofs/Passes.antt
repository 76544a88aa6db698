-- The turns of the loops over what the slots hold: what the definition says from a slot on, by what that slot holds;
-- and what the library's `any` and `position` say.
use Rattle.std.specs.Prelude.{Option, Some, None}
use Rattle.std.specs.List.{list_any, position_or_len}
use Prim.Native.Nat.{ℕ, suc, ◌+◌, ◌-◌, ◌≤◌, ◌<◌}
use mathlib.Core.Path.{◌≡◌, refl, sym, ap, ◌∙◌}
use mathlib.Core.Bool.{Bool, true, false, cond, ◌||◌}
use mathlib.Core.List.{List, [], ◌∷◌}
use native.Mathlib.Omega.{arith}
use Rattle.std.proofs.Common.{add-one, add-zero}
use mathlib.Core.Logic.{dite}
use native.Mathlib.Decide.{dec_lt}
use borrow.Author.Tests.{lt-ltb, le-ltb}
use lib.Dec.{ltb}
use lib.ListN.{length, get_or, take, drop, length-drop, drop_of_length-le}
use lib.Seq.{drop-cons, take_all}
use Rattle.scan.specs.Choice.{pick}
use Rattle.keys.specs.declared.KeyPlace.{KeyPlace}
use Rattle.tableread.specs.declared.Stored.{Stored}
use Rattle.tableread.specs.declared.Known.{Known}
use Rattle.tableread.specs.declared.Known.TheVariants.{Free, Bad, Good}
use Rattle.tableread.specs.inner.Known.{stored_bytes, holds_name, some_holds, lowest_from, find_from, free_from}

module _ (ks : List Known) (i : ℕ) where
  -- slot i and those behind it
  here : i < length ks → {k : Known} → get_or ks i Free ≡ k → drop i ks ≡ k ∷ drop (i + 1) ks
  here l e = rw (add-one i, drop-cons ks i Free l, e)

  pub behind : take (length ks - (i + 1)) (drop (i + 1) ks) ≡ drop (i + 1) ks
  behind = take_all (length ks - (i + 1)) (drop (i + 1) ks) (omega (arith, length-drop (i + 1) ks))

  -- ---- the slot with a name

  module _ (cells s : List ℕ) (key : Option KeyPlace) (print : ℕ) where
    pub find_good : {a : Stored} → i < length ks → get_or ks i Free ≡ Good a
        → find_from cells s key print i (drop i ks) ≡ pick (holds_name cells s key print (Good a)) (Some (i, a)) (find_from cells s key print (i + 1) (drop (i + 1) ks))
    unfolding find_from
    find_good l e = rw (here l e, add-one i)

    pub find_other : i < length ks → ((a : Stored) → get_or ks i Free ≡ Good a → ⊥) → find_from cells s key print i (drop i ks) ≡ find_from cells s key print (i + 1) (drop (i + 1) ks)
    unfolding find_from
    find_other l n = rw (here l refl, add-one i) (passed (get_or ks i Free) n)
      where
        passed : (k : Known) → ((a : Stored) → k ≡ Good a → ⊥)
            → find_from cells s key print i (k ∷ drop (suc i) ks) ≡ find_from cells s key print (suc i) (drop (suc i) ks)
        passed Free n = refl
        passed Bad n = refl
        passed (Good a) n = absurd (n a refl)

    pub find_end : length ks ≤ i → find_from cells s key print i (drop i ks) ≡ None
    unfolding find_from
    find_end l = rw (drop_of_length-le ks l)

  -- ---- the lowest bad slot

  module _ (cells : List ℕ) where
    pub lowest_free : i < length ks → get_or ks i Free ≡ Free → lowest_from cells i (drop i ks) ≡ lowest_from cells (i + 1) (drop (i + 1) ks)
    unfolding lowest_from
    lowest_free l e = rw (here l e, add-one i)

    pub lowest_here : i < length ks → get_or ks i Free ≡ Bad → lowest_from cells i (drop i ks) ≡ Some i
    unfolding lowest_from
    lowest_here l e = rw (here l e)

    pub lowest_good : {a : Stored} → i < length ks → get_or ks i Free ≡ Good a
        → lowest_from cells i (drop i ks)
        ≡ pick (some_holds cells (stored_bytes cells a) a.key a.print (drop (i + 1) ks)) (Some i) (lowest_from cells (i + 1) (drop (i + 1) ks))
    unfolding lowest_from
    lowest_good l e = rw (here l e, add-one i)

    pub lowest_end : length ks ≤ i → lowest_from cells i (drop i ks) ≡ None
    unfolding lowest_from
    lowest_end l = rw (drop_of_length-le ks l)

-- ---- whether one slot holds a name, and the lowest free slot

pub some_any : (cells s : List ℕ) (key : Option KeyPlace) (print : ℕ) (ks : List Known) → list_any (holds_name cells s key print) ks ≡ some_holds cells s key print ks
unfolding some_holds
some_any cells s key print [] = refl
some_any cells s key print (k ∷ ks) = ap (λ (t : Bool). holds_name cells s key print k || t) (some_any cells s key print ks) ∙ either (holds_name cells s key print k) (some_holds cells s key print ks)
  where
    either : (x y : Bool) → (x || y) ≡ pick x true y
    either true y = refl
    either false y = refl

abbrev pub is_free : Known → Bool
is_free Free = true
is_free Bad = false
is_free (Good a) = false

-- one slot further
further : (i p n : ℕ) → cond {A = Option ℕ} (ltb (1 + p) (suc n)) (Some (i + (1 + p))) None ≡ cond (ltb p n) (Some (suc i + p)) None
further i p n =
    let e : i + (1 + p) ≡ suc i + p = omega arith in
    dite (dec_lt p n) (λ l. rw (lt-ltb p n l, lt-ltb (1 + p) (suc n) (omega (arith, l)), e))
    (λ l. let h : n ≤ p = omega (arith, l) in rw (le-ltb p n h, le-ltb (1 + p) (suc n) (omega (arith, h))))

free_position : (i : ℕ) (ks : List Known) → cond (ltb (position_or_len is_free ks) (length ks)) (Some (i + position_or_len is_free ks)) None ≡ free_from i ks
unfolding free_from
free_position i [] = refl
free_position i (Free ∷ ks) = rw (lt-ltb 0 (suc (length ks)) (omega arith), add-zero i)
free_position i (Bad ∷ ks) = further i (position_or_len is_free ks) (length ks) ∙ free_position (suc i) ks
free_position i (Good a ∷ ks) = further i (position_or_len is_free ks) (length ks) ∙ free_position (suc i) ks

pub free_first : (ks : List Known) → cond (ltb (position_or_len is_free ks) (length ks)) (Some (position_or_len is_free ks)) None ≡ free_from 0 ks
free_first ks =
    let e : 0 + position_or_len is_free ks ≡ position_or_len is_free ks = omega arith in
    sym (ap (λ (k : ℕ). cond (ltb (position_or_len is_free ks) (length ks)) (Some k) None) e) ∙ free_position 0 ks
