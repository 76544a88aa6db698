-- Where the bare bytes of an input start, and what is told of them: of a bare input what is told of all of it; of a
-- versioned one what is told behind its 01.
-- By the tests of the definition, one after the other.
use Prim.Native.Nat.{ℕ, ◌+◌, ◌<◌, ◌≤◌}
use mathlib.Core.Path.{◌≡◌, refl, sym, ap}
use mathlib.Core.Bool.{Bool, true, false}
use mathlib.Core.List.{List, [], ◌∷◌}
use native.Mathlib.Nat.{add-zero}
use native.Mathlib.Omega.{arith}
use lib.ListN.{length, drop, length-drop}
use lib.Dec.{leb, eqb}
use borrow.Author.Tests.{leb-true, eqb-true, le-leb, lt-leb, ne_eqb}
use Rattle.scan.specs.Choice.{pick, Answer, shown, refused}
use Rattle.scan.proofs.Many.{then_shown}
use Rattle.versioned.specs.Versioned.{version_at, start_of, behind, given}

-- a refusal is no value
pub clash : {A R : Type 0} {a : A} {n p : ℕ} → refused n p ≡ shown a → R
clash e = let z : ◌≡◌ {A = ℕ} 0 1 = cc in absurd (omega arith)

-- a refusal says the same of any question
pub refused_as : {A B : Type 0} {m q n p : ℕ} → ◌≡◌ {A = Answer A} (refused m q) (refused n p) → ◌≡◌ {A = Answer B} (refused m q) (refused n p)
refused_as {m = m} {q = q} {n = n} {p = p} e =
    let a : m ≡ n = cc in
    let b : q ≡ p = cc in
    λ i. refused (a i) (b i)

behind_zero : {A : Type 0} (x : Answer A) → behind 0 x ≡ x
behind_zero (shown a) = refl
behind_zero (refused n p) = ap (λ (q : ℕ). refused n q) (add-zero p)

-- of a bare input what f tells of it
pub given_bare : {A : Type 0} (f : List ℕ → Answer A) (s : List ℕ) → given true f s ≡ f s
unfolding given start_of
given_bare f s = behind_zero (f s)

-- what a versioned input is, where its start is found
pub record Starts (s : List ℕ) (k : ℕ) : Type 0 where
  pub one : k ≡ 1
  pub short : length s ≤ 65_536
  pub whole : s ≡ 1 ∷ drop 1 s

pub versioned_starts : (s : List ℕ) {k : ℕ} → start_of false s ≡ shown k → Starts s k
unfolding start_of version_at
versioned_starts [] e = clash e
versioned_starts (x ∷ l) {k} e = go (leb (length (x ∷ l)) 65_536) (eqb (length (x ∷ l)) 0) (eqb x 1) refl refl e
  where
    go : (t u v : Bool) → leb (length (x ∷ l)) 65_536 ≡ t → eqb x 1 ≡ v
        → pick t (pick u (refused 2 0) (pick v (shown 1) (refused 25 0))) (refused 1 0) ≡ shown k → Starts (x ∷ l) k
    go true false true p q e =
        let f : ◌≡◌ {A = ℕ} 1 k = cc in
        record { one = sym f; short = leb-true (length (x ∷ l)) 65_536 p; whole = ap (λ (b : ℕ). b ∷ l) (eqb-true x 1 q) }
    go true false false p q e = clash e
    go true true v p q e = clash e
    go false u v p q e = clash e

-- the byte and at most 65,535 more
pub start_with : (b : List ℕ) → length b ≤ 65_535 → start_of false (1 ∷ b) ≡ shown 1
unfolding start_of version_at
start_with b h = rw (le-leb (length (1 ∷ b)) 65_536 (omega arith), ne_eqb (length (1 ∷ b)) 0 (λ z. omega (arith, z)))

-- more than 65,536 bytes have no start
pub start_long : (s : List ℕ) → 65_536 < length s → start_of false s ≡ refused 1 0
unfolding start_of version_at
start_long s h = rw (lt-leb (length s) 65_536 h)

-- behind the version byte f is asked of the bare bytes, and a refusal is one place further on
pub given_versioned : {A : Type 0} (f : List ℕ → Answer A) (b : List ℕ) → length b ≤ 65_535 → given false f (1 ∷ b) ≡ behind 1 (f b)
unfolding given
given_versioned f b h = rw (start_with b h)

-- a value told of an input is told of its bare bytes
pub given_shown : {A : Type 0} (bare : Bool) (f : List ℕ → Answer A) (s : List ℕ) {a : A} → given bare f s ≡ shown a
    → (k : ℕ) × (start_of bare s ≡ shown k) × (f (drop k s) ≡ shown a)
unfolding given
given_shown {A} bare f s {a} e = let h = then_shown (start_of bare s) _ a e in (h.0, h.1, unmoved h.0 (f (drop h.0 s)) h.2)
  where
    unmoved : (k : ℕ) (x : Answer A) → behind k x ≡ shown a → x ≡ shown a
    unmoved k (shown b) q = q
    unmoved k (refused n p) q = clash q

-- at most one byte stands in front, and it is one of the input's
pub start_fits : (bare : Bool) (s : List ℕ) {k : ℕ} → start_of bare s ≡ shown k → length (drop k s) + k ≤ length s
unfolding start_of
start_fits true s {k} e = let f : ◌≡◌ {A = ℕ} 0 k = cc in rw (sym f) (omega arith)
start_fits false s {k} e =
    let v = versioned_starts s e in
    let n = ap length v.whole in
    omega (arith, v.one, n, length-drop k s, length-drop 1 s)
