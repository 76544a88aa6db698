-- The turns of the loops over texts and over tags: a read that is good passes on to the others, one that is not
-- decides. A tag is read exactly where its table and its texts are.
use Prim.{tt}
use Prim.Native.Nat.{ℕ, zero, suc, ◌+◌, ◌*◌, ◌-◌, ◌<◌, ◌≤◌}
use mathlib.Core.Path.{◌≡◌, refl}
use mathlib.Core.List.{List, ◌∷◌}
use native.Mathlib.Numerals.{sub-one}
use native.Mathlib.Omega.{arith}
use Rattle.scan.specs.Choice.{Answer, shown, refused, Read, read, and_then, many}
use Rattle.scan.proofs.Many.{after}
use Rattle.notepack.specs.declared.Part.{Part}
use Rattle.pointer.specs.Pointer.{entries_in, pointed_text, pointed_text_at, tag_table_at, pointed_tag_at}
use Rattle.pointer.proofs.Items.{Good, good}
use Rattle.pointread.specs.inner.Walk.{fault, pointed_tag, texts_fault, tag_fault, tags_fault}
use Rattle.pointread.proofs.Texts.{as_read}

-- ---- n reads of eight bytes

module _ {A : Type 0} (item : ℕ → Answer (Read A)) where
  turn : (a : Answer (Read (List A))) (y : A) → fault (and_then a (λ xs. read (y ∷ xs.value) xs.next)) ≡ fault a
  turn (shown xs) y = refl
  turn (refused n q) y = refl

  turn_first : (left at : ℕ) → 0 < left → Good item at → fault (many item left at) ≡ fault (many item (left - 1) (at + 8))
  unfolding many
  turn_first zero at h g = absurd (omega arith)
  turn_first (suc left) at h (good y q) = rw (q, sub-one) (turn (many item left (at + 8)) y)

  turn_more : (n i at : ℕ) → i < n → Good item (at + 8 * i) → fault (many item (n - i) (at + 8 * i)) ≡ fault (many item (n - (i + 1)) (at + 8 * (i + 1)))
  turn_more n i at h g =
      let one : n - (i + 1) ≡ n - i - 1 = omega arith in
      let next : at + 8 * (i + 1) ≡ at + 8 * i + 8 = omega arith in
      rw (one, next) (turn_first (n - i) (at + 8 * i) (omega arith) g)

  turn_bad : (left at : ℕ) {n q : ℕ} → 0 < left → item at ≡ refused n q → fault (many item left at) ≡ refused n q
  unfolding many
  turn_bad zero at h e = absurd (omega arith)
  turn_bad (suc left) at h e = rw e

  turn_done : (left at : ℕ) → left ≤ 0 → fault (many item left at) ≡ shown tt
  unfolding many
  turn_done zero at h = refl
  turn_done (suc left) at h = absurd (omega arith)

-- ---- what has a fault

-- two reads of which one is refused
both_refused : {A B C D : Type 0} (a : Answer A) (b : A → Answer B) (f : A → B → C) (g : A → B → D) (n q : ℕ)
    → and_then a (λ x. and_then (b x) (λ y. shown (f x y))) ≡ refused n q → and_then a (λ x. and_then (b x) (λ y. shown (g x y))) ≡ refused n q
both_refused (shown x) b f g n q e = one (b x) (f x) (g x) e
  where
    one : {B C D : Type 0} (a : Answer B) (f : B → C) (g : B → D) → and_then a (λ y. shown (f y)) ≡ refused n q → and_then a (λ y. shown (g y)) ≡ refused n q
    one (shown y) f g e = let z : ◌≡◌ {A = ℕ} 0 1 = cc in absurd (omega arith)
    one (refused m p) f g e = cc
both_refused (refused m p) b f g n q e = cc

has_fault : {A : Type 0} (a : Answer A) {n q : ℕ} → fault a ≡ refused n q → a ≡ refused n q
has_fault (shown x) e = let z : ◌≡◌ {A = ℕ} 0 1 = cc in absurd (omega arith)
has_fault (refused m p) e = cc

-- a value that is put in the place of another has its faults
same_fault : {A B : Type 0} (a : Answer A) (b : B) → fault (and_then a (λ _. shown b)) ≡ fault a
same_fault (shown x) b = refl
same_fault (refused m p) b = refl

module _ (version : ℕ) (s : List ℕ) where
  -- ---- texts

  pub texts_more : (n i at : ℕ) {p : Part} → i < n → pointed_text version s (at + 8 * i) ≡ shown p
      → texts_fault version s (n - i) (at + 8 * i) ≡ texts_fault version s (n - (i + 1)) (at + 8 * (i + 1))
  unfolding texts_fault
  texts_more n i at {p} h e = turn_more (pointed_text_at version s) n i at h (good p (as_read version s (at + 8 * i) e))

  pub texts_bad : (n i at : ℕ) {m q : ℕ} → i < n → pointed_text version s (at + 8 * i) ≡ refused m q → texts_fault version s (n - i) (at + 8 * i) ≡ refused m q
  unfolding texts_fault
  texts_bad n i at h e = turn_bad (pointed_text_at version s) (n - i) (at + 8 * i) (omega arith) (as_read version s (at + 8 * i) e)

  pub texts_done : (n i at : ℕ) → n ≤ i → texts_fault version s (n - i) (at + 8 * i) ≡ shown tt
  unfolding texts_fault
  texts_done n i at h = turn_done (pointed_text_at version s) (n - i) (at + 8 * i) (omega arith)

  -- ---- a tag

  -- the faults of a tag whose table is read are those of its texts
  pub tag_texts_lem : (at : ℕ) {p : Part} → tag_table_at version s at ≡ shown p → tag_fault version s at ≡ texts_fault version s (entries_in p) p.at
  unfolding tag_fault pointed_tag texts_fault
  tag_texts_lem at {p} e = rw e (same_fault (many (pointed_text_at version s) (entries_in p) p.at) p)

  pub tag_untabled : (at : ℕ) {n q : ℕ} → tag_table_at version s at ≡ refused n q → tag_fault version s at ≡ refused n q
  unfolding tag_fault pointed_tag
  tag_untabled at e = rw e

  -- a tag that is good, and one that is not
  tag_good : (at : ℕ) {p : Part} → pointed_tag version s at ≡ shown p → Good (pointed_tag_at version s) at
  unfolding pointed_tag pointed_tag_at
  tag_good at {p} e =
      after (tag_table_at version s at) _ p e
      (λ q t e₁.
      after (many (pointed_text_at version s) (entries_in q) q.at) _ p e₁
      (λ ts u e₂. good ts.value (rw (t, u))))

  tag_refused : (at : ℕ) {n q : ℕ} → pointed_tag version s at ≡ refused n q → pointed_tag_at version s at ≡ refused n q
  unfolding pointed_tag pointed_tag_at
  tag_refused at {n} {q} e =
      both_refused (tag_table_at version s at) (λ (p : Part). many (pointed_text_at version s) (entries_in p) p.at)
      (λ p ts. p) (λ p ts. record { value = ts.value; next = at + 8 }) n q e

  -- ---- tags

  pub tags_more : (n i at : ℕ) {p : Part} → i < n → pointed_tag version s (at + 8 * i) ≡ shown p
      → tags_fault version s (n - i) (at + 8 * i) ≡ tags_fault version s (n - (i + 1)) (at + 8 * (i + 1))
  unfolding tags_fault
  tags_more n i at h e = turn_more (pointed_tag_at version s) n i at h (tag_good (at + 8 * i) e)

  pub tags_bad : (n i at : ℕ) {m q : ℕ} → i < n → pointed_tag version s (at + 8 * i) ≡ refused m q → tags_fault version s (n - i) (at + 8 * i) ≡ refused m q
  unfolding tags_fault
  tags_bad n i at h e = turn_bad (pointed_tag_at version s) (n - i) (at + 8 * i) (omega arith) (tag_refused (at + 8 * i) e)

  pub tags_done : (n i at : ℕ) → n ≤ i → tags_fault version s (n - i) (at + 8 * i) ≡ shown tt
  unfolding tags_fault
  tags_done n i at h = turn_done (pointed_tag_at version s) (n - i) (at + 8 * i) (omega arith)

  -- the same by a tag's fault
  pub fault_more : (n i at : ℕ) → i < n → tag_fault version s (at + 8 * i) ≡ shown tt
      → tags_fault version s (n - i) (at + 8 * i) ≡ tags_fault version s (n - (i + 1)) (at + 8 * (i + 1))
  unfolding tag_fault
  fault_more n i at h e = after (pointed_tag version s (at + 8 * i)) _ tt e (λ p q _. tags_more n i at h q)

  pub fault_bad : (n i at : ℕ) {m q : ℕ} → i < n → tag_fault version s (at + 8 * i) ≡ refused m q → tags_fault version s (n - i) (at + 8 * i) ≡ refused m q
  unfolding tag_fault
  fault_bad n i at h e = tags_bad n i at h (has_fault (pointed_tag version s (at + 8 * i)) e)

-- for the loops, and for a tag
pub ruleset texts = (texts_more, texts_bad, texts_done)

pub ruleset tags = (tags_more, tags_bad, tags_done)

pub ruleset tags_by_fault = (fault_more, fault_bad, tags_done)

pub ruleset tag = (tag_texts_lem, tag_untabled)
