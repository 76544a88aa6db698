-- What is found among the slots is one of them: by induction over the slots.
use Prim.Native.Nat.{ℕ, suc, ◌+◌, ◌<◌}
use mathlib.Core.Path.{◌≡◌, ap}
use Rattle.std.specs.Prelude.{Option, Some}
use mathlib.Core.Bool.{Bool, true, false}
use mathlib.Core.List.{List, [], ◌∷◌}
use native.Mathlib.Omega.{arith}
use lib.ListN.{length}
use Rattle.scan.specs.Choice.{pick}
use Rattle.keys.specs.declared.KeyPlace.{KeyPlace}
use Rattle.tableread.specs.declared.Stored.{Stored}
use Rattle.tableread.specs.declared.Known.{Known}
use Rattle.tableread.specs.declared.Known.TheVariants.{Free, Bad, Good}
use Rattle.tableread.specs.inner.Known.{holds_name, find_from, free_from}

module _ (cells s : List ℕ) (key : Option KeyPlace) (print : ℕ) where
  find_below : (i : ℕ) (ks : List Known) {j : ℕ} {a : Stored} → find_from cells s key print i ks ≡ Some (j, a) → j < i + length ks
  unfolding find_from
  find_below i [] e = absurd (cc)
  find_below i (Free ∷ l) e = let h = find_below (suc i) l e in omega (arith, h)
  find_below i (Bad ∷ l) e = let h = find_below (suc i) l e in omega (arith, h)
  find_below i (Good b ∷ l) {j} {a} e = go (λ q. find_below (suc i) l q) (holds_name cells s key print (Good b)) e
    where
      go : (find_from cells s key print (suc i) l ≡ Some (j, a) → j < suc i + length l) → (t : Bool)
          → pick t (Some (i, b)) (find_from cells s key print (suc i) l) ≡ Some (j, a) → j < i + suc (length l)
      go ih true f = let k : ◌≡◌ {A = ℕ × Stored} (i, b) (j, a) = cc in omega (arith, ap (λ (x : ℕ × Stored). x.0) k)
      go ih false f = let h = ih f in omega (arith, h)

  pub find_within : (ks : List Known) {j : ℕ} {a : Stored} → find_from cells s key print 0 ks ≡ Some (j, a) → j < length ks
  find_within ks e = let h = find_below 0 ks e in omega (arith, h)

free_below : (i : ℕ) (ks : List Known) {j : ℕ} → free_from i ks ≡ Some j → j < i + length ks
unfolding free_from
free_below i [] e = absurd (cc)
free_below i (Free ∷ l) {j} e = let k : i ≡ j = cc in omega (arith, k)
free_below i (Bad ∷ l) e = let h = free_below (suc i) l e in omega (arith, h)
free_below i (Good b ∷ l) e = let h = free_below (suc i) l e in omega (arith, h)

pub free_within : (ks : List Known) {j : ℕ} → free_from 0 ks ≡ Some j → j < length ks
free_within ks e = let h = free_below 0 ks e in omega (arith, h)
