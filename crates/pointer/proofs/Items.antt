-- Reads of eight bytes, one after the other: the first that is refused decides; where each is good, all are shown.
-- By induction on the number; the reads are at places eight bytes apart.
use Prim.{Unit, tt}
use Prim.Native.Nat.{ℕ, zero, suc, ◌+◌, ◌*◌, ◌<◌, ◌≤◌}
use mathlib.Core.Path.{◌≡◌, refl, sym, ap, ◌∙◌}
use mathlib.Core.List.{List, []}
use native.Mathlib.Omega.{arith}
use lib.ListN.{length}
use Rattle.scan.specs.Choice.{Answer, shown, refused, Read, read, many}
use Rattle.scan.proofs.Reading.{read_same}
use Rattle.scan.proofs.Many.{many_apart}
use Rattle.event.specs.inner.Tells.{Tells, value}
use Rattle.event.proofs.TellsLaws.{then_tells}
use Rattle.notepack.specs.Views.{nth}
use Rattle.pointer.specs.Named.{each_from}

-- the place of entry i + 1 of a table, from its first entry or from its second
later : (at i : ℕ) → at + 8 * suc i ≡ at + 8 + 8 * i
later at i = omega arith

module _ {A : Type 0} (item : ℕ → Answer (Read A)) where
  -- a read of eight bytes
  pub data Good (at : ℕ) : Type 0 where
    good : (x : A) → item at ≡ read x (at + 8) → Good at

  -- the k-th is the first that is refused
  pub many_bad : (k n at : ℕ) {m p : ℕ} → k < n → ((i : ℕ) → i < k → Good (at + 8 * i)) → item (at + 8 * k) ≡ refused m p → many item n at ≡ refused m p
  unfolding many
  many_bad k zero at h g e = absurd (omega arith)
  many_bad zero (suc n) at h g e = let f : at + 8 * 0 ≡ at = omega arith in rw (rw f at e)
  many_bad (suc k) (suc n) at {m} {p} h g e =
      let f : at + 8 * 0 ≡ at = omega arith in
      first (rw f at (g 0 (omega arith))) (many_bad k n (at + 8) (omega arith) (λ i l. rw (later at i) at (g (suc i) (omega arith))) (rw (later at k) at e))
    where
      first : Good at → many item n (at + 8) ≡ refused m p → many item (suc n) at ≡ refused m p
      first (good x q) r = rw (q, r)

  -- each is good
  pub many_good : (f : ℕ → A) (n at : ℕ) → ((i : ℕ) → i < n → item (at + 8 * i) ≡ read (f (at + 8 * i)) (at + 8 * i + 8))
      → many item n at ≡ read (each_from f n at) (at + 8 * n)
  unfolding many each_from
  many_good f zero at g = let e : at ≡ at + 8 * 0 = omega arith in ap (read []) e
  many_good f (suc n) at g =
      let z : at + 8 * 0 ≡ at = omega arith in
      let first : item at ≡ read (f at) (at + 8) = rw z at (g 0 (omega arith)) in
      let others = many_good f n (at + 8) (λ i l. rw (later at i) at (g (suc i) (omega arith))) in
      rw (first, others, later at n)

  -- what a read shows is f of its place, whatever is read: so are all
  pub many_each : (f : ℕ → A) → ((at : ℕ) (r : Read A) → item at ≡ shown r → (r.value ≡ f at) × (r.next ≡ at + 8))
      → (n at : ℕ) (r : Read (List A)) → many item n at ≡ shown r → (r.value ≡ each_from f n at) × (r.next ≡ at + 8 * n)
  unfolding many each_from
  many_each f law zero at r e = let q = read_same e in (sym q.0, omega (arith, q.1))
  many_each f law (suc n) at r e =
      let a = many_apart item n at r e in
      let x = law at a.0 a.2 in
      let xs = many_each f law n (at + 8) a.1 (rw x.1 at a.3) in
      (rw (sym x.0, sym xs.0) a.4, omega (arith, a.5, xs.1))

  -- each is good, and what a read shows is f of its place
  pub many_good_each : (f : ℕ → A) → ((at : ℕ) (r : Read A) → item at ≡ shown r → (r.value ≡ f at) × (r.next ≡ at + 8))
      → (n at : ℕ) → ((i : ℕ) → i < n → Good (at + 8 * i)) → many item n at ≡ read (each_from f n at) (at + 8 * n)
  many_good_each f law n at g = many_good f n at (λ i h. first (at + 8 * i) (g i h))
    where
      first : (k : ℕ) → Good k → item k ≡ read (f k) (k + 8)
      first k (good x q) = q ∙ ap (λ (y : A). read y (k + 8)) (law k (record { value = x; next = k + 8 }) q).0

module _ {A : Type 0} (f : ℕ → A) where
  pub each_count : (n at : ℕ) → length (each_from f n at) ≡ n
  unfolding each_from
  each_count zero at = refl
  each_count (suc n) at = ap suc (each_count n (at + 8))

  -- number i of them stands 8 × i bytes further on
  pub each_nth : (i n at : ℕ) → i < n → nth i (each_from f n at) ≡ shown (f (at + 8 * i))
  unfolding each_from
  each_nth i zero at h = absurd (omega arith)
  each_nth zero (suc n) at h = let e : at ≡ at + 8 * 0 = omega arith in ap (λ (k : ℕ). shown (f k)) e
  each_nth (suc i) (suc n) at h = rw (later at i) (each_nth i n (at + 8) (omega arith))

  -- and there are no others
  pub each_none : (i n at : ℕ) → n ≤ i → nth i (each_from f n at) ≡ refused 19 0
  unfolding each_from
  each_none i zero at h = refl
  each_none zero (suc n) at h = absurd (omega arith)
  each_none (suc i) (suc n) at h = each_none i n (at + 8) (omega arith)

-- n reads of eight bytes, where there are so many
pub many_eight_tells : {A : Type 0} {numbers : List ℕ} {most : ℕ} (item : ℕ → Answer (Read A))
    → ((at : ℕ) → at ≤ most → Tells numbers most (λ (r : Read A). r.next ≡ at + 8) (item at))
    → (n at : ℕ) → at + 8 * n ≤ most → Tells numbers most (λ (r : Read (List A)). Unit {0}) (many item n at)
unfolding many
many_eight_tells item law zero at h = value tt
many_eight_tells item law (suc n) at h =
    then_tells _ (law at (omega arith))
    (λ x e. then_tells _ (many_eight_tells item law n x.next (omega arith)) (λ xs _. value tt))
