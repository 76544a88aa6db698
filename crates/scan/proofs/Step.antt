-- The bridge between places and lists, and between tests and facts: what every proof over an input shares.
-- A slice from place i on is its byte at i and the slice from i + 1 on.
use Prim.Native.Nat.{ℕ, ◌+◌, ◌-◌, ◌<◌, ◌≤◌, min}
use mathlib.Core.Path.{◌≡◌, refl, sym, ap, ◌∙◌}
use mathlib.Core.Bool.{Bool, true, false, ◌&&◌}
use mathlib.Core.List.{List, [], ◌∷◌, ◌++◌}
use native.Mathlib.Numerals.{add-one}
use native.Mathlib.Omega.{arith}
use lib.ListN.{length, get_or, take, drop, length-drop, take-append-drop, drop_of_length-le, get_or-eq_default}
use lib.Seq.{drop-cons, drop-drop, take_all, take-nil}
use borrow.Author.Tests.{lt-ltb, le-ltb, le-leb, lt-leb, eq-eqb, ne_eqb}
use Rattle.std.proofs.lemmas.Grind.{common_steps}
use Rattle.scan.specs.Choice.{pick}

pub rest_none : (s : List ℕ) (i : ℕ) → length s ≤ i → drop i s ≡ []
rest_none s i h = drop_of_length-le s h

-- the same, from the place or from the end where that comes first
pub rest_min : (s : List ℕ) (i : ℕ) → drop (min i (length s)) s ≡ drop i s
rest_min s i = grind (arith, common_steps)

pub rest_more : (s : List ℕ) (i : ℕ) → i < length s → drop i s ≡ get_or s i 0 ∷ drop (i + 1) s
rest_more s i h = rw (add-one, drop-cons s i 0)

-- a part that starts past the end has no byte
pub part_none : (s : List ℕ) (from n : ℕ) → length s ≤ from → take n (drop from s) ≡ []
part_none s from n h = rw (rest_none s from h) (take-nil n)

-- the text from i on is the block from i to e and the text from e on
pub rest_block : (t : List ℕ) (i e : ℕ) → i ≤ e → drop i t ≡ take (e - i) (drop i t) ++ drop e t
rest_block t i e h =
    let j : i + (e - i) ≡ e = omega arith in
    let d = drop-drop (e - i) i t ∙ ap (λ (k : ℕ). drop k t) j in
    sym (take-append-drop (e - i) (drop i t)) ∙ ap (λ (r : List ℕ). take (e - i) (drop i t) ++ r) d

-- a part that goes to the end
pub rest_whole : (t : List ℕ) (i : ℕ) → take (length t - i) (drop i t) ≡ drop i t
rest_whole t i = take_all (length t - i) (drop i t) (omega (arith, length-drop i t))

-- past the end stands 0
pub byte_none : (s : List ℕ) (i : ℕ) → length s ≤ i → get_or s i 0 ≡ 0
byte_none s i h = get_or-eq_default s 0 h

-- what each test of the code says of the same test in a definition
pub ruleset tests = (lt-ltb, le-ltb, le-leb, lt-leb, eq-eqb, ne_eqb, byte_none)

-- a test has one outcome
pub false_true : false ≡ true → ⊥
false_true e = let n = ap kind e in omega arith
  where
    kind : Bool → ℕ
    kind true = 0
    kind false = 1

pub not_so : (x : Bool) → (x ≡ true → ⊥) → x ≡ false
not_so true f = absurd (f refl)
not_so false f = refl

-- two tests in a row, as the code has them
pub pick_and : (t x : Bool) → (t && x) ≡ pick t x false
pick_and true x = refl
pick_and false x = refl

-- two tests in a row, both passed
pub pick_true : (t x : Bool) → pick t x false ≡ true → (t ≡ true) × (x ≡ true)
pick_true true x h = (refl, h)
pick_true false x h = absurd (false_true h)

-- a property of a choice holds where it holds of each side under the side's test
pub pick_by : {A : Type 0} (P : A → Type 0) (t : Bool) {x y : A} → (t ≡ true → P x) → (t ≡ false → P y) → P (pick t x y)
pick_by P true f g = f refl
pick_by P false f g = g refl
