-- The counts that a field can hold; the kind's, and a tag's, are read exactly where their descriptors stand.
-- By the laws of one descriptor; the counts of a tag's items are reads one after the other.
use Prim.Native.Nat.{ℕ, ◌+◌, ◌≤◌}
use mathlib.Core.Path.{◌≡◌, refl, sym}
use mathlib.Core.Bool.{Bool, true, false}
use mathlib.Core.List.{List, [], ◌∷◌, ◌++◌}
use native.Mathlib.Omega.{arith}
use lib.ListN.{length}
use lib.Dec.{eqb}
use borrow.Author.Tests.{eqb-false, ne_eqb, le-leb}
use Rattle.scan.specs.Choice.{pick, shown, refused, Read, read}
use Rattle.scan.specs.Place.{within}
use Rattle.scan.specs.Bytes.{All}
use Rattle.scan.specs.inner.Span.{Span}
use Rattle.scan.proofs.SpanLaws.{join, cut_at, span_length}
use Rattle.scan.proofs.Many.{after, pick_shown, shown_same, many_shown, many_accepts}
use Rattle.hexdigits.specs.Hex.{hexes}
use Rattle.scan.proofs.PlaceLaws.{within_bounds}
use Rattle.hexdigits.proofs.Texts.{hexes_append}
use Rattle.nson.specs.Nson.{Counts, word, words, tag_counts}
use Rattle.nson.specs.Read.{byte_count_at, word_count_at, kind_count_at, item_count_at, tag_counts_at}
use Rattle.nson.proofs.Descriptors.{byte_count_shown, byte_count_accepts, word_count_shown, word_count_accepts}

-- ---- what counts the field can hold

-- a count of two bytes
abbrev pub Short : ℕ → Type 0
Short n = n ≤ 65_535

pub record TagCounts (l : List ℕ) : Type 0 where
  pub one : 1 ≤ length l
  pub few : length l ≤ 255
  pub each : All Short l

pub record Holds (c : Counts) : Type 0 where
  pub one : 1 ≤ c.kind
  pub five : c.kind ≤ 5
  pub content : c.content ≤ 65_535
  pub few : length c.tags ≤ 255
  pub each : All TagCounts c.tags

-- ---- the pieces

pub kind_count_shown : (end : ℕ) (s : List ℕ) (at : ℕ) (v : Read ℕ) → kind_count_at end s at ≡ shown v
    → Span s at (hexes (v.value ∷ [])) v.next × (1 ≤ v.value) × (v.value ≤ 5)
unfolding kind_count_at
kind_count_shown end s at v e =
    after (byte_count_at end s at) _ v e
    (λ n p e₁.
    let t = pick_shown _ _ 13 at v e₁ in
    let f : n ≡ v = shown_same t.1 in
    let k = within_bounds 1 5 n.value t.0 in
    rw (sym f) ((byte_count_shown end s at n p).0, k.0, k.1))

pub kind_count_accepts : (end : ℕ) (s : List ℕ) (k at p : ℕ) → p ≤ end → 1 ≤ k → k ≤ 5 → Span s at (hexes (k ∷ [])) p → kind_count_at end s at ≡ read k p
unfolding kind_count_at within
kind_count_accepts end s k at p h l m r = rw (byte_count_accepts end s k at p h (omega arith) r, le-leb 1 k l, le-leb k 5 m)

item_count_shown : (end : ℕ) (s : List ℕ) (at : ℕ) (v : Read ℕ) → item_count_at end s at ≡ shown v
    → Span s at (hexes (v.value ∷ [])) v.next × (1 ≤ v.value) × (v.value ≤ 255)
unfolding item_count_at
item_count_shown end s at v e = after (byte_count_at end s at) _ v e (λ n p e₁. some n p (eqb n.value 0) refl e₁)
  where
    some : (n : Read ℕ) → byte_count_at end s at ≡ shown n → (t : Bool) → eqb n.value 0 ≡ t → pick t (refused 9 at) (shown n) ≡ shown v
        → Span s at (hexes (v.value ∷ [])) v.next × (1 ≤ v.value) × (v.value ≤ 255)
    some n p true t e₁ = let z : ◌≡◌ {A = ℕ} 0 1 = cc in absurd (omega arith)
    some n p false t e₁ =
        let f : n ≡ v = shown_same e₁ in
        let b = byte_count_shown end s at n p in
        let k = eqb-false n.value 0 t in
        rw (sym f) (b.0, omega (arith, k), b.1)

item_count_accepts : (end : ℕ) (s : List ℕ) (k at p : ℕ) → p ≤ end → 1 ≤ k → k ≤ 255 → Span s at (hexes (k ∷ [])) p → item_count_at end s at ≡ read k p
unfolding item_count_at
item_count_accepts end s k at p h l m r = rw (byte_count_accepts end s k at p h m r, ne_eqb k 0 (λ e. omega arith))

-- ---- a tag's counts

-- the spelling of a tag's counts, and that of all tags
abbrev pub tag_hexes : List ℕ → List ℕ
tag_hexes t = hexes (length t ∷ words t)

pub tags_more : (t : List ℕ) (l : List (List ℕ)) → hexes (tag_counts (t ∷ l)) ≡ tag_hexes t ++ hexes (tag_counts l)
tags_more t l = rw (hexes_append (words t) (tag_counts l))

pub tag_counts_shown : (end : ℕ) (s : List ℕ) (at : ℕ) (v : Read (List ℕ)) → tag_counts_at end s at ≡ shown v → Span s at (tag_hexes v.value) v.next × TagCounts v.value
unfolding tag_counts_at
tag_counts_shown end s at v e =
    after (item_count_at end s at) _ v e
    (λ n p e₁.
    let i = item_count_shown end s at n p in
    let w = many_shown (λ (m : ℕ). hexes (word m)) (λ (l : List ℕ). hexes (words l)) refl (λ m l. refl) Short s (word_count_at end s) (word_count_shown end s) n.value n.next v e₁ in
    let f : n.value ≡ length v.value = sym w.2 in
    (join (rw f at i.0) w.0, record { one = omega (arith, i.1); few = omega (arith, i.2); each = w.1 }))

pub tag_counts_accept : (end : ℕ) (s : List ℕ) (l : List ℕ) (at c : ℕ) → c ≤ end → TagCounts l → Span s at (tag_hexes l) c → tag_counts_at end s at ≡ read l c
unfolding tag_counts_at
tag_counts_accept end s l at c h g r =
    let u = cut_at (hexes (length l ∷ [])) 2 refl r in
    let k = span_length u.1 in
    rw (item_count_accepts end s (length l) at (at + 2) (omega arith) g.one g.few u.0)
    (many_accepts (λ (m : ℕ). hexes (word m)) (λ (l : List ℕ). hexes (words l)) refl (λ m l. refl) Short s (word_count_at end s) end (word_count_accepts end s) l (at + 2) c h g.each u.1)
