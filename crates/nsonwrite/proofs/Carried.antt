-- Which tests of the measure decide whether NSON can carry an event.
-- By the decision, test for test; each tag has a descriptor of its own.
use Prim.Native.Nat.{◌+◌, ◌≤◌, ◌<◌}
use mathlib.Core.Path.{◌≡◌, refl, sym, ◌∙◌}
use mathlib.Core.Bool.{true, false}
use mathlib.Core.List.{List, [], ◌∷◌}
use native.Mathlib.Omega.{arith}
use lib.ListN.{length}
use borrow.Author.Tests.{le-leb}
use Rattle.scan.specs.Place.{within}
use Rattle.scan.proofs.Step.{pick_true, false_true, not_so}
use Rattle.event.specs.Event.{Tag, Event}
use Rattle.nson.specs.Nson.{nson}
use Rattle.nson.specs.Carries.{tag_bytes, Carries}
use Rattle.nson.specs.inner.Decision.{fits, tags_fit, carries}
use Rattle.nson.proofs.Decision.{carries_exactly}
use Rattle.nsonwrite.specs.inner.Measure.{texts_fit}

tags_few : (l : List Tag) → length l ≤ tag_bytes l
unfolding tag_bytes
tags_few [] = omega arith
tags_few (t ∷ l) = omega (arith, tags_few l)

module _ (e : Event) where
  -- what is said of an event that can be carried does not hold
  refuted : (Carries e → ⊥) → carries e ≡ false
  refuted f = not_so (carries e) (λ h. f ((carries_exactly e).0 h))

  pub early : e.created_at < 1_000_000_000 → carries e ≡ false
  early h = refuted (λ c. let k = c.early in omega arith)

  pub late : 9_999_999_999 < e.created_at → carries e ≡ false
  late h = refuted (λ c. let k = c.late in omega arith)

  pub many : 255 < length e.tags → carries e ≡ false
  many h = refuted (λ c. let k = c.few in omega (arith, tags_few e.tags))

  pub full : 127 < 4 + tag_bytes e.tags → carries e ≡ false
  full h = refuted (λ c. let k = c.few in omega arith)

  pub long : 65_536 < length (nson e) → carries e ≡ false
  long h = refuted (λ c. let k = c.whole in omega arith)

  pub misfit : texts_fit e ≡ false → carries e ≡ false
  unfolding carries texts_fit
  misfit h =
      not_so (carries e) (λ k.
      let a = pick_true (within 1_000_000_000 9_999_999_999 e.created_at) _ k in
      let b = pick_true (fits e.content) _ a.1 in
      let c = pick_true (tags_fit e.tags) _ b.1 in
      let y : texts_fit e ≡ true = rw (b.0, c.0) refl in
      false_true (sym h ∙ y))

  pub carried : 1_000_000_000 ≤ e.created_at → e.created_at ≤ 9_999_999_999 → texts_fit e ≡ true → 4 + tag_bytes e.tags ≤ 127 → length (nson e) ≤ 65_536 → carries e ≡ true
  unfolding carries within texts_fit
  carried a b t f w =
      let p = pick_true (fits e.content) (tags_fit e.tags) t in
      rw (le-leb 1_000_000_000 e.created_at a, le-leb e.created_at 9_999_999_999 b, p.0, p.1, le-leb (4 + tag_bytes e.tags) 127 f) (le-leb (length (nson e)) 65_536 w)
