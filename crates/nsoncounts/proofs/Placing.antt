-- The counts that were read are those that stand at their places: `counts_placed`. Each read ends where its digits do.
-- Along the reads; n counts by induction on n.
use Prim.Native.Nat.{ℕ, zero, suc, ◌+◌, ◌*◌}
use mathlib.Core.Path.{◌≡◌, refl, sym, ap, ◌∙◌}
use mathlib.Core.Bool.{Bool, true, false}
use mathlib.Core.List.{List}
use native.Mathlib.Omega.{arith}
use lib.ListN.{length}
use lib.Dec.{leb, eqb}
use borrow.Author.Tests.{eqb-false}
use Rattle.scan.specs.Choice.{pick, shown, refused, Read, read, many}
use Rattle.scan.specs.Place.{within}
use Rattle.scan.proofs.Reading.{read_same}
use Rattle.scan.proofs.Many.{many_apart, many_count, pick_shown, after, shown_same}
use Rattle.nson.specs.Nson.{Counts}
use Rattle.nson.specs.Read.{hex_at, byte_here, word_here, descriptor_at, byte_count_at, word_count_at, kind_count_at, item_count_at, tag_counts_at, counts_to, counts_at}
use Rattle.nsoncounts.specs.inner.Counted.{item_sizes, tag_sizes, sizes_of, counts_of}
use Rattle.nsoncounts.proofs.Counting.{hex_next}

descriptor_next : (n end : ℕ) (s : List ℕ) (at p : ℕ) → descriptor_at n end s at ≡ shown p → p ≡ at + n
unfolding descriptor_at
descriptor_next n end s at p e = hex_next n s at (pick_shown (leb (at + n) end) (hex_at n s at) 13 318 p e).1

-- a count says the digits at its place
pub record Says (value next : ℕ) (v : Read ℕ) : Type 0 where
  pub says : v.value ≡ value
  pub ends : v.next ≡ next

byte_says : (end : ℕ) (s : List ℕ) (at : ℕ) (v : Read ℕ) → byte_count_at end s at ≡ shown v → Says (byte_here s at) (at + 2) v
unfolding byte_count_at
byte_says end s at v e =
    after (descriptor_at 2 end s at) _ v e
    (λ p q f. let g = read_same f in record { says = sym g.0; ends = sym g.1 ∙ descriptor_next 2 end s at p q })

word_says : (end : ℕ) (s : List ℕ) (at : ℕ) (v : Read ℕ) → word_count_at end s at ≡ shown v → Says (word_here s at) (at + 4) v
unfolding word_count_at
word_says end s at v e =
    after (descriptor_at 4 end s at) _ v e
    (λ p q f. let g = read_same f in record { says = sym g.0; ends = sym g.1 ∙ descriptor_next 4 end s at p q })

kind_says : (end : ℕ) (s : List ℕ) (at : ℕ) (v : Read ℕ) → kind_count_at end s at ≡ shown v → v.next ≡ at + 2
unfolding kind_count_at
kind_says end s at v e =
    after (byte_count_at end s at) _ v e
    (λ n q f. let g = shown_same (pick_shown (within 1 5 n.value) (shown n) 13 at v f).1 in ap (λ (x : Read ℕ). x.next) (sym g) ∙ (byte_says end s at n q).ends)

-- a tag's number of items, which is not 0
item_says : (end : ℕ) (s : List ℕ) (at : ℕ) (v : Read ℕ) → item_count_at end s at ≡ shown v → Says (byte_here s at) (at + 2) v × (byte_here s at ≡ 0 → ⊥)
unfolding item_count_at
item_says end s at v e =
    after (byte_count_at end s at) _ v e
    (λ n q f.
    let b = byte_says end s at n q in
    let g = some (eqb n.value 0) refl f in
    let h = ap (λ (x : Read ℕ). x.value) g.1 in
    let i = ap (λ (x : Read ℕ). x.next) g.1 in
    (record { says = sym h ∙ b.says; ends = sym i ∙ b.ends }, λ z. eqb-false n.value 0 g.0 (b.says ∙ z)))
  where
    some : {n : Read ℕ} (t : Bool) → eqb n.value 0 ≡ t → pick t (refused 9 at) (shown n) ≡ shown v → (eqb n.value 0 ≡ false) × (n ≡ v)
    some true q f = let z : ◌≡◌ {A = ℕ} 0 1 = cc in absurd (omega arith)
    some false q f = (q, shown_same f)

-- ---- n counts

items_placed : (end : ℕ) (s : List ℕ) (n at : ℕ) (v : Read (List ℕ)) → many (word_count_at end s) n at ≡ shown v → (v.value ≡ item_sizes n s at) × (v.next ≡ at + 4 * n)
unfolding many item_sizes
items_placed end s zero at v e = let g = read_same e in (sym g.0, let k = g.1 in omega arith)
items_placed end s (suc n) at v e =
    let a = many_apart (word_count_at end s) n at v e in
    let w = word_says end s at a.0 a.2 in
    let r = items_placed end s n a.0.next a.1 a.3 in
    let x = w.says in
    let y = w.ends in
    let z = r.1 in
    let o = a.5 in
    (a.4 ∙ rw (x, r.0, y) refl, omega arith)

tag_placed : (end : ℕ) (s : List ℕ) (at : ℕ) (v : Read (List ℕ)) → tag_counts_at end s at ≡ shown v
    → (v.value ≡ item_sizes (byte_here s at) s (at + 2)) × (v.next ≡ at + (2 + 4 * byte_here s at)) × (byte_here s at ≡ 0 → ⊥)
unfolding tag_counts_at
tag_placed end s at v e =
    after (item_count_at end s at) _ v e
    (λ n q f.
    let i = item_says end s at n q in
    let x = i.0.says in
    let y = i.0.ends in
    let r = items_placed end s n.value n.next v f in
    let z = r.1 in
    (r.0 ∙ rw (x, y) refl, omega arith, i.1))

-- no tag is empty
pub data Filled (s : List ℕ) : ℕ → ℕ → Type 0 where
  no_tag : {at : ℕ} → Filled s 0 at
  one_more : {n at : ℕ} → (byte_here s at ≡ 0 → ⊥) → Filled s n (at + (2 + 4 * byte_here s at)) → Filled s (suc n) at

tags_placed : (end : ℕ) (s : List ℕ) (n at : ℕ) (v : Read (List (List ℕ))) → many (tag_counts_at end s) n at ≡ shown v → (v.value ≡ tag_sizes n s at) × Filled s n at
unfolding many tag_sizes
tags_placed end s zero at v e = (sym (read_same e).0, no_tag)
tags_placed end s (suc n) at v e =
    let a = many_apart (tag_counts_at end s) n at v e in
    let t = tag_placed end s at a.0 a.2 in
    let y = t.1 in
    let r = tags_placed end s n a.0.next a.1 a.3 in
    (a.4 ∙ rw (t.0, r.0, y) refl, one_more t.2 (rw y at r.1))

-- ---- the whole field

pub record Placed (s : List ℕ) (c : Counts) : Type 0 where
  pub same : c ≡ counts_of s (sizes_of c)
  pub filled : Filled s (length c.tags) 328

abbrev counted : ℕ → ℕ → List (List ℕ) → Counts
counted k c t = record { kind = k; content = c; tags = t }

to_placed : (end : ℕ) (s : List ℕ) (v : Read Counts) → counts_to end s 320 ≡ shown v → Placed s v.value
unfolding counts_to
to_placed end s v e =
    after (kind_count_at end s 320) _ v e
    (λ k q e₁.
    after (word_count_at end s k.next) _ v e₁
    (λ w r e₂.
    after (byte_count_at end s w.next) _ v e₂
    (λ n t e₃.
    after (many (tag_counts_at end s) n.value n.next) _ v e₃
    (λ l u e₄.
    let f = (read_same (pick_shown (eqb l.next end) (read (record { kind = k.value; content = w.value; tags = l.value }) l.next) 13 318 v e₄).1).0 in
    let a = kind_says end s 320 k q in
    let b = (word_says end s k.next w r).ends in
    let d = (byte_says end s w.next n t).ends in
    let place : n.next ≡ 328 = omega arith in
    let p = tags_placed end s n.value n.next l u in
    let m = many_count (tag_counts_at end s) n.value n.next l u in
    let x : l.value ≡ tag_sizes (length l.value) s 328 = p.0 ∙ rw (place, m) refl in
    let y : Filled s (length l.value) 328 = rw m (rw place at p.1) in
    let g = ap (counted k.value w.value) x in
    let r : Placed s (record { kind = k.value; content = w.value; tags = l.value }) = record { same = g; filled = y } in
    rw f at r))))

pub counts_placed : (s : List ℕ) (v : Read Counts) → counts_at s ≡ shown v → Placed s v.value
unfolding counts_at
counts_placed s v e =
    after (hex_at 2 s 318) _ v e
    (λ p q f. let g : p ≡ 320 = hex_next 2 s 318 q in to_placed (320 + byte_here s 318) s v (rw g at f))
