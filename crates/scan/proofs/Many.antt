-- Reads one after the other: n reads give n values, and each is read from where those before it end.
-- By induction on the number, along the reads; nothing is known of the single read.
use Prim.Native.Nat.{ℕ, zero, suc, ◌≤◌, ◌<◌}
use mathlib.Core.Path.{◌≡◌, refl, sym, ap, ◌∙◌}
use mathlib.Core.Bool.{Bool, true, false}
use mathlib.Core.List.{List, [], ◌∷◌, ◌++◌}
use native.Mathlib.Omega.{arith}
use lib.ListN.{length}
use Rattle.scan.specs.Choice.{pick, Answer, shown, refused, Read, read, and_then, many}
use Rattle.scan.specs.Bytes.{All, none, also}
use Rattle.scan.specs.inner.Span.{here, Span}
use Rattle.scan.proofs.SpanLaws.{join, cut, none_span, span_length, respell}
use Rattle.scan.proofs.Reading.{read_same}

-- a choice that shows a value has passed its test
pub pick_shown : {A : Type 0} (t : Bool) (x : Answer A) (number place : ℕ) (v : A) → pick t x (refused number place) ≡ shown v → (t ≡ true) × (x ≡ shown v)
pick_shown true x number place v e = (refl, e)
pick_shown false x number place v e = let z : ◌≡◌ {A = ℕ} 0 1 = cc in absurd (omega arith)

-- an answer after another, taken apart: what follows from the first one's value
pub after : {A B R : Type 0} (r : Answer A) (f : A → Answer B) (b : B) → and_then r f ≡ shown b → ((a : A) → r ≡ shown a → f a ≡ shown b → R) → R
after (shown a) f b e g = g a refl e
after (refused n p) f b e g = let z : ◌≡◌ {A = ℕ} 0 1 = cc in absurd (omega arith)

pub shown_same : {A : Type 0} {a b : A} → shown a ≡ shown b → a ≡ b
shown_same e = cc

-- one answer after another, taken apart
pub then_shown : {A B : Type 0} (r : Answer A) (f : A → Answer B) (b : B) → and_then r f ≡ shown b → (a : A) × (r ≡ shown a) × (f a ≡ shown b)
then_shown (shown a) f b e = (a, refl, e)
then_shown (refused n p) f b e = let z : ◌≡◌ {A = ℕ} 0 1 = cc in absurd (omega arith)

module _ {A : Type 0} (item : ℕ → Answer (Read A)) where
  -- n more, taken apart: the first, and the others behind it
  pub many_apart : (n at : ℕ) (v : Read (List A)) → many item (suc n) at ≡ shown v
      → (x : Read A) × (xs : Read (List A)) × (item at ≡ shown x) × (many item n x.next ≡ shown xs) × (v.value ≡ x.value ∷ xs.value) × (v.next ≡ xs.next)
  unfolding many
  many_apart n at v e =
      let a = then_shown (item at) _ v e in
      let b = then_shown (many item n a.0.next) _ v a.2 in
      let f = read_same b.2 in
      (a.0, b.0, a.1, b.1, sym f.0, sym f.1)

  -- n reads give n values
  pub many_count : (n at : ℕ) (v : Read (List A)) → many item n at ≡ shown v → length v.value ≡ n
  unfolding many
  many_count zero at v e = let f = read_same e in ap length (sym f.0)
  many_count (suc n) at v e =
      let a = many_apart n at v e in
      ap length a.4 ∙ ap suc (many_count n a.0.next a.1 a.3)

  -- the value behind the first i is read from where those end
  pub many_at : (i n at : ℕ) (v : Read (List A)) → many item n at ≡ shown v → i < n
      → (u : Read (List A)) × (x : Read A) × (rest : List A) × (many item i at ≡ shown u) × (item u.next ≡ shown x) × (v.value ≡ u.value ++ (x.value ∷ rest))
  unfolding many
  many_at i zero at v e h = absurd (omega arith)
  many_at zero (suc n) at v e h = let a = many_apart n at v e in (record { value = []; next = at }, a.0, a.1.value, refl, a.2, a.4)
  many_at (suc i) (suc n) at v e h =
      let a = many_apart n at v e in
      let b = many_at i n a.0.next a.1 a.3 (omega arith) in
      (record { value = a.0.value ∷ b.0.value; next = b.0.next }, b.1, b.2, rw (a.2, b.3), b.4, a.4 ∙ ap (λ (l : List A). a.0.value ∷ l) b.5)

-- Reads one after the other are shown exactly where the spellings of their values stand one after the other; G is what
-- the single spellings g make together.
module _ {A : Type 0} (g : A → List ℕ) (G : List A → List ℕ) (nothing : G [] ≡ []) (more : (x : A) (l : List A) → G (x ∷ l) ≡ g x ++ G l) (Q : A → Type 0) (s : List ℕ)
    (item : ℕ → Answer (Read A)) where
  pub many_shown : ((at : ℕ) (v : Read A) → item at ≡ shown v → Span s at (g v.value) v.next × Q v.value)
      → (n at : ℕ) (v : Read (List A)) → many item n at ≡ shown v → Span s at (G v.value) v.next × All Q v.value × (length v.value ≡ n)
  unfolding many
  many_shown law zero at v e =
      let f : record { value = []; next = at } ≡ v = shown_same e in
      rw (sym f) (respell (sym nothing) here, none, refl)
  many_shown law (suc n) at v e =
      after (item at) _ v e
      (λ x p e₁.
      after (many item n x.next) _ v e₁
      (λ xs q e₂.
      let f : record { value = x.value ∷ xs.value; next = xs.next } ≡ v = shown_same e₂ in
      let first = law at x p in
      let others = many_shown law n x.next xs q in
      rw (sym f) (respell (sym (more x.value xs.value)) (join first.0 others.0), also first.1 others.1, ap suc others.2)))

  -- each read may look ahead up to an end
  pub many_accepts : (end : ℕ) → ((x : A) (at c : ℕ) → c ≤ end → Q x → Span s at (g x) c → item at ≡ read x c)
      → (xs : List A) (at c : ℕ) → c ≤ end → All Q xs → Span s at (G xs) c → many item (length xs) at ≡ read xs c
  unfolding many
  many_accepts end law [] at c h none r = ap (read []) (none_span (respell nothing r))
  many_accepts end law (x ∷ xs) at c h (also q all) r =
      let u = cut (g x) (respell (more x xs) r) in
      let k = span_length u.2 in
      rw (law x at u.0 (omega arith) q u.1, many_accepts end law xs u.0 c h all u.2)
