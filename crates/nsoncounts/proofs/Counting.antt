-- The counts as the code passes over them: many reads of which only the place is kept, and the counts that stand alone.
-- A turn of a loop is one law; the number of tags is the number of their counts.
use Prim.Native.Nat.{ℕ, zero, suc, ◌+◌, ◌-◌, ◌<◌, ◌≤◌}
use mathlib.Core.Path.{◌≡◌, refl, sym, ap, ◌∙◌}
use mathlib.Core.Bool.{Bool, true, false}
use mathlib.Core.List.{List, ◌∷◌}
use native.Mathlib.Omega.{arith}
use lib.ListN.{length}
use lib.Dec.{eqb}
use Rattle.scan.specs.Choice.{pick, Answer, shown, refused, Read, read, and_then, many}
use Rattle.scan.proofs.SpanLaws.{span_length}
use Rattle.scan.proofs.Many.{many_count}
use Rattle.nson.specs.Read.{hex_at, counts_at, byte_here, word_here, descriptor_at, byte_count_at, word_count_at, kind_count_at, tag_counts_at, counts_to}
use Rattle.nson.proofs.Pieces.{hex_shown}
use Rattle.nsoncounts.specs.inner.Counted.{next_of, sizes_of, sizes_to}
use Rattle.nsoncounts.proofs.Laws.{then_then, then_same, next_shown, next_refused}

-- ---- n reads of which only the place is kept

module _ {A : Type 0} (item : ℕ → Answer (Read A)) where
  next_cons : (x : A) (r : Answer (Read (List A))) → next_of (and_then r (λ xs. read (x ∷ xs.value) xs.next)) ≡ next_of r
  next_cons x (shown v) = refl
  next_cons x (refused n p) = refl

  many_none : (n at : ℕ) → n ≤ 0 → next_of (many item n at) ≡ shown at
  unfolding many
  many_none zero at h = refl
  many_none (suc n) at h = absurd (omega arith)

  many_more : (n at : ℕ) {p : ℕ} → 0 < n → next_of (item at) ≡ shown p → next_of (many item n at) ≡ next_of (many item (n - 1) p)
  unfolding many
  many_more zero at h e = absurd (omega arith)
  many_more (suc n) at {p} h e =
      let x = next_shown (item at) e in
      let k : suc n - 1 ≡ n = omega arith in
      rw (k, x.1) (next_cons x.0 (many item n p))

  many_refused : (n at : ℕ) {m p : ℕ} → 0 < n → next_of (item at) ≡ refused m p → next_of (many item n at) ≡ refused m p
  unfolding many
  many_refused zero at h e = absurd (omega arith)
  many_refused (suc n) at h e = rw (next_refused (item at) e) refl

  -- the same in the loop's words: X is the place behind n reads, of which k are done, up to a place
  module _ (n k at : ℕ) {X : Answer ℕ} (inv : X ≡ next_of (many item (n - k) at)) where
    pub many_turn : {p : ℕ} → k < n → shown p ≡ next_of (item at) → X ≡ next_of (many item (n - (k + 1)) p)
    many_turn {p} h e =
        let one : n - (k + 1) ≡ n - k - 1 = omega arith in
        rw one (inv ∙ many_more (n - k) at (omega arith) (sym e))

    pub many_stop : {m p : ℕ} → k < n → refused m p ≡ next_of (item at) → refused m p ≡ X
    many_stop h e = sym (inv ∙ many_refused (n - k) at (omega arith) (sym e))

    pub many_done : n ≤ k → shown at ≡ X
    many_done h = sym (inv ∙ many_none (n - k) at (omega arith))

-- a count of two bytes is passed where its digits are
pub word_next : (end : ℕ) (s : List ℕ) (at : ℕ) → next_of (word_count_at end s at) ≡ descriptor_at 4 end s at
unfolding word_count_at
word_next end s at = go (descriptor_at 4 end s at)
  where
    go : (r : Answer ℕ) → next_of (and_then r (λ p. read (word_here s at) p)) ≡ r
    go (shown p) = refl
    go (refused n p) = refl

-- what the loops over counts need
pub ruleset loop_steps = (word_next, many_turn, many_stop, many_done)

-- ---- the counts that stand alone

-- they are those of the counts up to the end, of which the tags' are passed over: their number is that of the tags
pub sizes_again : (end : ℕ) (s : List ℕ) (at : ℕ) → and_then (counts_to end s at) (λ n. read (sizes_of n.value) n.next) ≡ sizes_to end s at
unfolding counts_to sizes_to
sizes_again end s at =
    then_then (kind_count_at end s at) _ _
    ∙ then_same (kind_count_at end s at) _ _
    (λ k _.
    then_then (word_count_at end s k.next) _ _
    ∙ then_same (word_count_at end s k.next) _ _
    (λ c _.
    then_then (byte_count_at end s c.next) _ _
    ∙ then_same (byte_count_at end s c.next) _ _
    (λ n _.
    then_then (many (tag_counts_at end s) n.value n.next) _ _
    ∙ then_same (many (tag_counts_at end s) n.value n.next) _ _
    (λ t e. by_end k.value c.value n.value t.next t.value (eqb t.next end) (many_count (tag_counts_at end s) n.value n.next t e))
    ∙ sym (then_then (many (tag_counts_at end s) n.value n.next) _ _))))
  where
    by_end : (k c n next : ℕ) (t : List (List ℕ)) (b : Bool) → length t ≡ n
        → and_then (pick b (read (record { kind = k; content = c; tags = t }) next) (refused 13 318)) (λ x. read (sizes_of x.value) x.next)
        ≡ pick b (read (record { kind = k; content = c; tags = n }) next) (refused 13 318)
    by_end k c n next t true e = rw e refl
    by_end k c n next t false e = refl

-- ---- the whole field

-- hex digits end where their number says
pub hex_next : (n : ℕ) (s : List ℕ) (at : ℕ) {p : ℕ} → hex_at n s at ≡ shown p → p ≡ at + n
hex_next n s at {p} e = let h = hex_shown n s at p e in let k = h.count in omega (arith, span_length h.span)

-- the field is its size, and the counts up to the end that it says
pub field_again : (s : List ℕ) → and_then (counts_at s) (λ n. read (sizes_of n.value) n.next) ≡ and_then (hex_at 2 s 318) (λ _. sizes_to (320 + byte_here s 318) s 320)
unfolding counts_at
field_again s =
    then_then (hex_at 2 s 318) _ _
    ∙ then_same (hex_at 2 s 318) _ _ (λ p e. sizes_again (p + byte_here s 318) s p ∙ ap (λ (i : ℕ). sizes_to (i + byte_here s 318) s i) (hex_next 2 s 318 e))
